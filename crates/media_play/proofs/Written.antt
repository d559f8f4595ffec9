-- The numbers that were written on plain streams, as the session turns.
use Rattle.std.proofs.Common.{◌≡◌, ◌⊎◌, inl, inr, ℕ, Bool, true, false, List, [], ◌∷◌, ◌++◌, map, refl, sym, ap, ◌∙◌, subst}
use Rattle.std.specs.Prelude.{◌==◌}
use Rattle.std.specs.List.{list_any, AllByRecursion, AllZip}
use Rattle.std.proofs.lemmas.List.{append-nil}
use Rattle.std.proofs.lemmas.List.Concat.{flat_map-append}
use Rattle.std.proofs.lemmas.Bool.{eq-eqb, false≢true}
use Rattle.media_model.specs.declared.entry.Side.{Side}
use Rattle.media_model.specs.declared.entry.Side.TheVariants.{A, B}
use Rattle.media_model.specs.declared.entry.Write.{Write}
use Rattle.media_model.specs.declared.entry.Entry.{Entry}
use Rattle.media_model.specs.declared.entry.Entry.TheVariants.{Wrote}
use Rattle.media_model.specs.Entries.{write_on, writes_on}
use Rattle.media_model.specs.Sides.{same_side}
use Rattle.run_model.specs.Events.{Event, wrote, Types, Outgoing}
use Rattle.run_model.specs.Listing.{IsIn}
use Rattle.run_model.specs.Seals.{Sealing}
use Rattle.run_model.specs.TxPlay.{TxRecord, Polls, drops, misses, resends, sends}
use Rattle.run_model.specs.Tables.{Table, PollsOne, here, there, ServesAll, rests, reports, more, begun_at, written_to, IsUnused, Hears, none, one}
use Rattle.run_model.specs.Whole.{Config, Session, Turns, writes, ticks, calls, requests, opens, hears, stays}
use Rattle.rtcp_wire.specs.declared.rtcp_fb.RtcpFb.{RtcpFb}
use Rattle.media_play.specs.declared.numbers.Numbers.{Numbers}
use Rattle.media_play.specs.Knowing.{UsedAs, IsWrittenIn}
use Rattle.media_play.proofs.Keys.{zip_weaker}
use Rattle.media_play.proofs.Lists.{tested}

abbrev pub writes_first : List Event → Bool
writes_first (wrote time w ∷ events) = true
writes_first _ = false

-- the same streams, on which the same numbers were written
abbrev pub SameWritten : Table → Table → Type 0
SameWritten [] [] = Unit {0}
SameWritten [] (t ∷ ys) = ⊥
SameWritten (s ∷ xs) [] = ⊥
SameWritten (s ∷ xs) (t ∷ ys) = ((t.0 ≡ s.0) × (t.1.written ≡ s.1.written)) × SameWritten xs ys

pub same_refl : (xs : Table) → SameWritten xs xs
same_refl [] = tt
same_refl (s ∷ xs) = ((refl, refl), same_refl xs)

same_trans : (xs ys zs : Table) → SameWritten xs ys → SameWritten ys zs → SameWritten xs zs
same_trans [] [] zs h k = k
same_trans [] (t ∷ ys) zs h k = absurd h
same_trans (s ∷ xs) [] zs h k = absurd h
same_trans (s ∷ xs) (t ∷ ys) [] h k = absurd k
same_trans (s ∷ xs) (t ∷ ys) (u ∷ zs) h k = ((k.0.0 ∙ h.0.0, k.0.1 ∙ h.0.1), same_trans xs ys zs h.1 k.1)

polls_same : {T : Types} {L : Outgoing} {seal : Sealing} {now : ℕ} {t u : TxRecord} {events : List Event} → Polls T L seal now t u events → u.written ≡ t.written
polls_same (drops m) = refl
polls_same (misses n rest e h) = refl
polls_same (resends n rest w x pt bytes e h r s i) = refl
polls_same (sends w rest store bytes e q k i) = refl

one_same : {T : Types} {seal : Sealing} {now : ℕ} {xs ys : Table} {events : List Event} → PollsOne T seal now xs ys events → SameWritten xs ys
one_same (here {rest = rest} L p) = ((refl, polls_same p), same_refl rest)
one_same (there s p) = ((refl, refl), one_same p)

serves_same : {T : Types} {seal : Sealing} {now : ℕ} {xs ys : Table} {events : List Event} → ServesAll T seal now xs ys events → SameWritten xs ys
serves_same (rests {xs = xs}) = same_refl xs
serves_same (reports index items d) = serves_same d
serves_same (more {xs = xs} {ys = ys} {zs = zs} p d) = same_trans xs ys zs (one_same p) (serves_same d)

begun_same : (time : ℕ) (xs : Table) → SameWritten xs (map (begun_at time) xs)
begun_same time [] = tt
begun_same time (s ∷ xs) = ((refl, refl), begun_same time xs)

hears_same : {items : List RtcpFb} {xs ys : Table} → Hears items xs ys → SameWritten xs ys
hears_same none = tt
hears_same (one L t queued q h) = ((refl, refl), hears_same h)

pub turn_same : {C : Config} {side : Side} {a c : Session} {events : List Event} → Turns C side a c events → writes_first events ≡ false → SameWritten a.tx c.tx
turn_same (writes time w l u) e = absurd cc
turn_same {a = a} (ticks {ys = ys} time new next l d f k) e = same_trans a.tx (map (begun_at time) a.tx) ys (begun_same time a.tx) (serves_same d.serves)
turn_same {a = a} (calls time items l o) e = same_refl a.tx
turn_same {a = a} (requests time l) e = same_refl a.tx
turn_same {a = a} (opens time bytes ssrc n p s l i o) e = same_refl a.tx
turn_same (hears time bytes index items l r h) e = hears_same h
turn_same {a = a} (stays time kind bytes l no_rtp no_rtcp) e = same_refl a.tx

pub turn_wrote : {C : Config} {side : Side} {a c : Session} {events : List Event} → Turns C side a c events → (time : ℕ) (w : Write) → events ≡ wrote time w ∷ []
    → c.tx ≡ map (written_to w) a.tx
turn_wrote {a = a} (writes t v l u) time w e = let is : v ≡ w = cc in ap (λ (x : Write). map (written_to x) a.tx) is
turn_wrote (ticks t new next l d f k) time w e = absurd cc
turn_wrote (calls t items l o) time w e = absurd cc
turn_wrote (requests t l) time w e = absurd cc
turn_wrote (opens t bytes ssrc n p s l i o) time w e = absurd cc
turn_wrote (hears t bytes index items l r h) time w e = absurd cc
turn_wrote (stays t kind bytes l no_rtp no_rtcp) time w e = absurd cc

-- what brings no write leaves the writes as they are
pub quiet : (side : Side) (r : ℕ) (entries chunk : List Entry) → writes_on side r chunk ≡ [] → writes_on side r (entries ++ chunk) ≡ writes_on side r entries
quiet side r entries chunk e = flat_map-append (write_on side r) entries chunk ∙ ap (λ (ws : List Write). writes_on side r entries ++ ws) e ∙ append-nil (writes_on side r entries)

pub used_quiet : (side : Side) (entries chunk : List Entry) → ((r : ℕ) → writes_on side r chunk ≡ []) → (rs : List ℕ) (used : List Numbers)
    → AllZip (UsedAs side entries) rs used → AllZip (UsedAs side (entries ++ chunk)) rs used
used_quiet side entries chunk empty rs used h =
    zip_weaker (UsedAs side entries) (UsedAs side (entries ++ chunk)) rs used
    (λ r u i k n. k n ∙ sym (ap (list_any (λ (w : Write). w.number == n)) (quiet side r entries chunk (empty r)))) h

pub carried : (side : Side) (entries chunk : List Entry) → ((r : ℕ) → writes_on side r chunk ≡ []) → (xs ys : Table) → SameWritten xs ys
    → AllByRecursion (IsWrittenIn side entries) xs → AllByRecursion (IsWrittenIn side (entries ++ chunk)) ys
carried side entries chunk empty [] [] same h = tt
carried side entries chunk empty [] (t ∷ ys) same h = absurd same
carried side entries chunk empty (s ∷ xs) [] same h = absurd same
carried side entries chunk empty (s ∷ xs) (t ∷ ys) same h = (
  λ n i.
      ap (list_any (λ (w : Write). w.number == n)) (quiet side t.0.ssrc entries chunk (empty t.0.ssrc))
      ∙ ap (λ (L : Outgoing). list_any (λ (w : Write). w.number == n) (writes_on side L.ssrc entries)) same.0.0
      ∙ h.0 n (subst (λ (ns : List ℕ). IsIn n ns) same.0.1 i),
  carried side entries chunk empty xs ys same.1 h.1,
)

-- a write

pub same_self : (side : Side) → same_side side side ≡ true
same_self A = refl
same_self B = refl

any_left : (p : Write → Bool) (xs ys : List Write) → list_any p xs ≡ true → list_any p (xs ++ ys) ≡ true
any_left p [] ys e = absurd (false≢true e)
any_left p (x ∷ xs) ys e = elim (tested (p x)) [ inl t ↦ rw t refl | inr t ↦ rw t (any_left p xs ys (rw t at e)) ]

in_or_last : (n m : ℕ) (xs : List ℕ) → IsIn n (xs ++ m ∷ []) → IsIn n xs ⊎ (n ≡ m)
in_or_last n m [] (inl e) = inr e
in_or_last n m [] (inr i) = absurd i
in_or_last n m (x ∷ xs) (inl e) = inl (inl e)
in_or_last n m (x ∷ xs) (inr i) = elim (in_or_last n m xs i) [ inl j ↦ inl (inr j) | inr e ↦ inr e ]

any_last : (p : Write → Bool) (xs : List Write) (w : Write) → p w ≡ true → list_any p (xs ++ w ∷ []) ≡ true
any_last p [] w e = rw e refl
any_last p (x ∷ xs) w e = elim (tested (p x)) [ inl t ↦ rw t refl | inr t ↦ rw t (any_last p xs w e) ]

pub writes_more : (side : Side) (r : ℕ) (entries chunk : List Entry) → writes_on side r (entries ++ chunk) ≡ writes_on side r entries ++ writes_on side r chunk
writes_more side r entries chunk = flat_map-append (write_on side r) entries chunk

pub wrote_all : (side : Side) (entries : List Entry) (time : ℕ) (w : Write) (xs : Table)
    → AllByRecursion (IsWrittenIn side entries) xs → AllByRecursion (IsWrittenIn side (entries ++ Wrote side time w ∷ [])) (map (written_to w) xs)
wrote_all side entries time w [] h = tt
wrote_all side entries time w (s ∷ xs) h = (
  λ n i. rw (writes_more side s.0.ssrc entries (Wrote side time w ∷ [])) (elim (tested (w.ssrc == s.0.ssrc)) [
    | inl t ↦ elim (in_or_last n w.number s.1.written (rw t at i)) [
      | inl j ↦ any_left (λ (u : Write). u.number == n) (writes_on side s.0.ssrc entries) (writes_on side s.0.ssrc (Wrote side time w ∷ [])) (h.0 n j)
      | inr is ↦ rw (t, same_self side) (any_last (λ (u : Write). u.number == n) (writes_on side s.0.ssrc entries) w (eq-eqb w.number n (sym is)))
    ]
    | inr t ↦ any_left (λ (u : Write). u.number == n) (writes_on side s.0.ssrc entries) (writes_on side s.0.ssrc (Wrote side time w ∷ [])) (h.0 n (rw t at i))
  ]),
  wrote_all side entries time w xs h.1,
)

pub unused_all : (side : Side) (entries : List Entry) (w : Write) → list_any (λ u. u.number == w.number) (writes_on side w.ssrc entries) ≡ false → (xs : Table)
    → AllByRecursion (IsWrittenIn side entries) xs → IsUnused w xs
unused_all side entries w fresh [] h = tt
unused_all side entries w fresh (s ∷ xs) h = (
  λ is i. false≢true (sym fresh ∙ ap (λ (r : ℕ). list_any (λ (u : Write). u.number == w.number) (writes_on side r entries)) is ∙ h.0 w.number i),
  unused_all side entries w fresh xs h.1,
)
