-- What was sent on a line, one entry after another.
use Rattle.std.proofs.Common.{◌≡◌, ◌<◌, ◌+◌, ℕ, Bool, true, false, cond, not, ◌&&◌, ◌||◌, map, filter, List, [], ◌∷◌, ◌++◌, Option, Some, None, refl, sym, ap, ◌∙◌, subst, arith, nat_lt}
use Rattle.std.specs.Prelude.{◌==◌, if◌then◌else◌}
use Rattle.std.specs.Str.{bytes_eq}
use mathlib.Core.Bool.{beq}
use Rattle.std.specs.List.{list_any, fold}
use Rattle.std.proofs.lemmas.List.{append-nil}
use Rattle.std.proofs.lemmas.List.Sums.{fold-append}
use Rattle.std.proofs.lemmas.List.Concat.{flat_map-append}
use Rattle.std.proofs.lemmas.List.Folds.{list_any-append}
use Rattle.std.proofs.lemmas.Bool.{eqb-true, lt-ltb}
use Rattle.std.proofs.lemmas.Bool.Decides.{nat_tests}
use Rattle.media_model.specs.declared.entry.Side.{Side}
use Rattle.media_model.specs.declared.entry.Side.TheVariants.{A, B}
use Rattle.media_model.specs.declared.entry.Write.{Write}
use Rattle.media_model.specs.Sides.{peer_of, same_side}
use Rattle.run_model.specs.Events.{Event, wrote, Types}
use Rattle.run_model.specs.Runs.{Happening, event_of, events_of}
use Rattle.run_model.specs.Sending.{Sendings, sendings, sending_step, nothing_sent, is_sending, is_numbered}
use Rattle.run_widens.specs.declared.sent.Carried.{Carried}
use Rattle.run_widens.specs.declared.line.Line.{Line}
use Rattle.media_model.specs.contracts.entry.Side as side
use denote.Enum.Bare.{sameb}
use Rattle.rtp_base.specs.declared.kind.Kind.{Kind}
use Rattle.rtp_base.specs.declared.kind.Kind.TheVariants.{Rtp, Rtcp}
use Rattle.rtp_base.specs.Kind.{same_kind}
use Rattle.media_model.specs.declared.entry.Sealed.{Sealed as SealedEntry}
use Rattle.media_model.specs.declared.entry.Entry.{Entry}
use Rattle.media_model.specs.declared.entry.Entry.TheVariants.{Wrote, Sealed}
use Rattle.run_model.specs.Transcripts.{is_type, plain_in, sealed_event}
use Rattle.run_widens.specs.Lines.{types_in, happening_in}
use Rattle.run_widens.specs.Sent.{IsKey, same_carried, put_at, is_first, carried_by, is_before, or_at, IsBelow, any_sent, Stands, sendings_on}

-- the events of a side, with one happening more

pub events_more : (side : Side) (past : List Happening) (h : Happening) → events_of side (past ++ h ∷ []) ≡ events_of side past ++ event_of side h
events_more side past h = flat_map-append (event_of side) past (h ∷ []) ∙ ap (λ es. events_of side past ++ es) (append-nil (event_of side h))

pub event_own : (side s : Side) (e : Event) → same_side side s ≡ true → event_of side (s, e) ≡ e ∷ []
event_own side s e own = ap (λ b. cond b (e ∷ []) []) own

sendings_more : (line : Line) (past : List Happening) (h : Happening)
    → sendings_on line (past ++ h ∷ []) ≡ fold (sending_step line.ssrc) (sendings_on line past) (event_of (peer_of line.side) h)
sendings_more line past h =
    ap (sendings line.ssrc) (events_more (peer_of line.side) past h) ∙ fold-append (sending_step line.ssrc) nothing_sent (events_of (peer_of line.side) past) (event_of (peer_of line.side) h)

pub sendings_own : (line : Line) (past : List Happening) (s : Side) (e : Event) → same_side (peer_of line.side) s ≡ true
    → sendings_on line (past ++ (s, e) ∷ []) ≡ sending_step line.ssrc (sendings_on line past) e
sendings_own line past s e own =
    sendings_more line past (s, e) ∙ ap (fold (sending_step line.ssrc) (sendings_on line past)) (event_own (peer_of line.side) s e own)

-- tests of lists

or_false : (b : Bool) → (b || false) ≡ b
or_false true = refl
or_false false = refl

or_true : (b : Bool) → (b || true) ≡ true
or_true true = refl
or_true false = refl

any_more : {X : Type 0} (test : X → Bool) (xs : List X) (x : X) → list_any test (xs ++ x ∷ []) ≡ (list_any test xs || test x)
any_more test xs x = list_any-append test xs (x ∷ []) ∙ ap (λ b. list_any test xs || b) (or_false (test x))

any_kept : {X : Type 0} (p q : X → Bool) → ((x : X) → p x ≡ true → q x ≡ true) → (xs : List X) → list_any p (filter q xs) ≡ list_any p xs
any_kept p q h [] = refl
any_kept {X} p q h (x ∷ xs) = go (any_kept p q h xs) (p x) refl (q x) refl where
  go : list_any p (filter q xs) ≡ list_any p xs → (b : Bool) → p x ≡ b → (d : Bool) → q x ≡ d → list_any p (cond d (x ∷ filter q xs) (filter q xs)) ≡ (p x || list_any p xs)
  go more b e true f = ap (λ r. p x || r) more
  go more true e false f = absurd (cc (h x e))
  go more false e false f = more ∙ sym (ap (λ b. b || list_any p xs) e)

any_dropped : {X : Type 0} (p q : X → Bool) → ((x : X) → p x ≡ true → q x ≡ false) → (xs : List X) → list_any p (filter q xs) ≡ false
any_dropped p q h [] = refl
any_dropped {X} p q h (x ∷ xs) = go (any_dropped p q h xs) (p x) refl (q x) refl where
  go : list_any p (filter q xs) ≡ false → (b : Bool) → p x ≡ b → (d : Bool) → q x ≡ d → list_any p (cond d (x ∷ filter q xs) (filter q xs)) ≡ false
  go more true e true f = absurd (cc (h x e))
  go more false e true f = ap (λ b. b || list_any p (filter q xs)) e ∙ more
  go more b e false f = more

any_timed : (p : Write → Bool) (now : ℕ) (ws : List Write) → list_any (λ (x : ℕ × Write). p x.1) (map (λ w. (now, w)) ws) ≡ list_any p ws
any_timed p now [] = refl
any_timed p now (w ∷ ws) = ap (λ b. p w || b) (any_timed p now ws)

-- what stands for the sendings goes on

later : (o : Option ℕ) (at : ℕ) → IsBelow o at → IsBelow o (at + 1)
later None at h = tt
later (Some a) at h = omega arith

not_before : (at : ℕ) (l : Option ℕ) → IsBelow l at → is_before (Some at) l ≡ false
not_before at None h = refl
not_before at (Some b) h = grind (arith, nat_tests)

first_true : (b rest : Bool) → (b && rest) ≡ true → b ≡ true
first_true true rest e = refl
first_true false rest e = e

module _ (T : Types) (k : Carried) where
  -- a write
  pub writes : (s t : Sendings) (w : Write) (f l : Option ℕ) (at : ℕ) (b : Bool) → carried_by T k w ≡ b → t.sent ≡ s.sent → t.waiting ≡ s.waiting ++ w ∷ [] → Stands T k s f l at
      → Stands T k t (if b then or_at f at else f) l (at + 1)
  writes s t w f l at false c e d h =
      let same : list_any (carried_by T k) t.waiting ≡ list_any (carried_by T k) s.waiting = ap (list_any (carried_by T k)) d ∙ any_more (carried_by T k) s.waiting w ∙ ap (λ b. list_any (carried_by T k) s.waiting || b) c ∙ or_false (list_any (carried_by T k) s.waiting) in
      record {
        first_below = later f at h.first_below;
        last_below = later l at h.last_below;
        sent = ap (any_sent T k) e ∙ h.sent;
        never = λ n. same ∙ h.never n;
        waits = λ a n u. same ∙ h.waits a n u;
      }
  writes s t w None l at true c e d h =
      let all : list_any (carried_by T k) t.waiting ≡ true = ap (list_any (carried_by T k)) d ∙ any_more (carried_by T k) s.waiting w ∙ ap (λ b. list_any (carried_by T k) s.waiting || b) c ∙ or_true (list_any (carried_by T k) s.waiting) in
      record {
        first_below = omega arith;
        last_below = later l at h.last_below;
        sent = ap (any_sent T k) e ∙ h.sent ∙ sym (not_before at l h.last_below);
        never = λ n. absurd cc;
        waits = λ a n u. all;
      }
  writes s t w (Some a) l at true c e d h =
      let all : list_any (carried_by T k) t.waiting ≡ true = ap (list_any (carried_by T k)) d ∙ any_more (carried_by T k) s.waiting w ∙ ap (λ b. list_any (carried_by T k) s.waiting || b) c ∙ or_true (list_any (carried_by T k) s.waiting) in
      record {
        first_below = later (Some a) at h.first_below;
        last_below = later l at h.last_below;
        sent = ap (any_sent T k) e ∙ h.sent;
        never = λ n. absurd cc;
        waits = λ a n u. all;
      }

  its_number : (w : Write) → carried_by T k w ≡ true → (w.number == k.number) ≡ true
  its_number w e = first_true (w.number == k.number) _ e

  -- the seal of a first sending
  abbrev Seals : Sendings → Sendings → ℕ → Type 0
  Seals s t n = (t.sent ≡ s.sent ++ map (λ w. (s.now, w)) (filter (is_numbered n) s.waiting)) × (t.waiting ≡ filter (λ w. not (is_numbered n w)) s.waiting)

  sent_more : (s t : Sendings) (n : ℕ) → Seals s t n → any_sent T k t.sent ≡ (any_sent T k s.sent || list_any (carried_by T k) (filter (is_numbered n) s.waiting))
  sent_more s t n e =
      ap (any_sent T k) e.0 ∙ list_any-append (λ (x : ℕ × Write). carried_by T k x.1) s.sent (map (λ w. (s.now, w)) (filter (is_numbered n) s.waiting))
      ∙ ap (λ b. any_sent T k s.sent || b) (any_timed (carried_by T k) s.now (filter (is_numbered n) s.waiting))

  apart : (n : ℕ) → (n == k.number) ≡ false → (w : Write) → carried_by T k w ≡ true → is_numbered n w ≡ false
  apart n e w c = go (w.number == n) refl where
    go : (b : Bool) → (w.number == n) ≡ b → b ≡ false
    go false f = refl
    go true f =
        let is : w.number ≡ n = eqb-true w.number n f in
        absurd (cc (its_number w c, ap (λ m. m == k.number) is, e))

  pub seals : (s t : Sendings) (n : ℕ) (f l : Option ℕ) (at : ℕ) (b : Bool) → (n == k.number) ≡ b → Seals s t n → Stands T k s f l at → Stands T k t f (if b then Some at else l) (at + 1)
  seals s t n f l at false e d h =
      let none : list_any (carried_by T k) (filter (is_numbered n) s.waiting) ≡ false = any_dropped (carried_by T k) (is_numbered n) (apart n e) s.waiting in
      let same : list_any (carried_by T k) t.waiting ≡ list_any (carried_by T k) s.waiting = ap (list_any (carried_by T k)) d.1 ∙ any_kept (carried_by T k) (λ w. not (is_numbered n w)) (λ w c. ap not (apart n e w c)) s.waiting in
      record {
        first_below = later f at h.first_below;
        last_below = later l at h.last_below;
        sent = sent_more s t n d ∙ ap (λ b. any_sent T k s.sent || b) none ∙ or_false (any_sent T k s.sent) ∙ h.sent;
        never = λ u. same ∙ h.never u;
        waits = λ a u v. same ∙ h.waits a u v;
      }
  seals s t n f l at true e d h =
      let own : (w : Write) → carried_by T k w ≡ true → is_numbered n w ≡ true = λ w c. ap (λ m. w.number == m) (eqb-true n k.number e) ∙ its_number w c in
      let all : any_sent T k t.sent ≡ (any_sent T k s.sent || list_any (carried_by T k) s.waiting) = sent_more s t n d ∙ ap (λ b. any_sent T k s.sent || b) (any_kept (carried_by T k) (is_numbered n) own s.waiting) in
      let none : list_any (carried_by T k) t.waiting ≡ false = ap (list_any (carried_by T k)) d.1 ∙ any_dropped (carried_by T k) (λ w. not (is_numbered n w)) (λ w c. ap not (own w c)) s.waiting in
      record {
        first_below = later f at h.first_below;
        last_below = omega arith;
        sent = all ∙ now f refl (is_before f l) refl;
        never = λ u. none;
        waits = λ a u v. absurd (cc (below a f u h.first_below, ap (λ o. is_before o (Some at)) u, v));
      }
    where
      below : (a : ℕ) (g : Option ℕ) → g ≡ Some a → IsBelow g at → nat_lt a at ≡ true
      below a None u i = absurd cc
      below a (Some x) u i = let same : x ≡ a = cc in lt-ltb a at (let P : ℕ → Type 0 = λ y. y < at in subst P same i)

      now : (g : Option ℕ) → f ≡ g → (b : Bool) → is_before f l ≡ b → (any_sent T k s.sent || list_any (carried_by T k) s.waiting) ≡ is_before f (Some at)
      now None u b v =
          (λ i. (h.sent ∙ ap (λ o. is_before o l) u) i || h.never u i) ∙ sym (ap (λ o. is_before o (Some at)) u)
      now (Some a) u true v =
          ap (λ b. b || list_any (carried_by T k) s.waiting) (h.sent ∙ v) ∙ sym (ap (λ o. is_before o (Some at)) u ∙ below a f u h.first_below)
      now (Some a) u false v =
          ap (λ b. any_sent T k s.sent || b) (h.waits a u v) ∙ or_true (any_sent T k s.sent) ∙ sym (ap (λ o. is_before o (Some at)) u ∙ below a f u h.first_below)

-- the entries that change what was sent

side_is : (a b c : Side) → b ≡ c → sameb side.the_type a b ≡ true → same_side c a ≡ true
side_is a b c is e = ap (λ d. same_side d a) (sym is) ∙ go a b e where
  go : (a b : Side) → sameb side.the_type a b ≡ true → same_side b a ≡ true
  go A A e = refl
  go A B e = absurd cc
  go B A e = absurd cc
  go B B e = refl

same_key : (T : Types) (key k : Carried) (w : Write) (pt : ℕ) → IsKey key w pt → T.rtx_of w.pt ≡ Some pt → same_carried key k ≡ carried_by T k w
same_key T key k w pt e rtx =
    let type : (key.pt == k.pt) ≡ is_type k.pt (T.rtx_of w.pt) = ap (is_type k.pt) (ap Some e.type ∙ sym rtx) in
    λ i. (e.number i == k.number) && (type i && (beq (e.marker i) k.marker && ((e.time i == k.time) && (bytes_eq (e.csrc i) k.csrc.now && bytes_eq (e.payload i) k.payload.now))))

module _ (line : Line) (past : List Happening) (entry : Entry) (sender : Side) (peer : sender ≡ peer_of line.side) where
  pub wrote_told : (s : Side) (t : ℕ) (w : Write) → entry ≡ Wrote s t w → sameb side.the_type s sender ≡ true → (w.ssrc == line.ssrc) ≡ true
      → (key k : Carried) (pt : ℕ) → IsKey key w pt → (types_in line).rtx_of w.pt ≡ Some pt
      → (f g l : Option ℕ) (at : ℕ) → g ≡ put_at at key k f → Stands (types_in line) k (sendings_on line past) f l at
      → Stands (types_in line) k (sendings_on line (past ++ happening_in line entry ∷ [])) g l (at + 1)
  wrote_told s t w is own on key k pt e rtx f g l at new h =
      let S = sendings_on line past in
      let S' = sendings_on line (past ++ happening_in line entry ∷ []) in
      let step : S' ≡ record S { now = t; writes = S.writes ++ w ∷ []; waiting = S.waiting ++ w ∷ [] } = ap (λ (x : Entry). sendings_on line (past ++ happening_in line x ∷ [])) is ∙ sendings_own line past s (wrote t w) (side_is s sender (peer_of line.side) peer own) ∙ ap (λ b. if b then record S { now = t; writes = S.writes ++ w ∷ []; waiting = S.waiting ++ w ∷ [] } else record S { now = t }) on in
      let P : Option ℕ → Type 0 = λ o. Stands (types_in line) k S' o l (at + 1) in
      subst P (sym new)
      (writes (types_in line) k S S' w f l at (same_carried key k) (sym (same_key (types_in line) key k w pt e rtx)) (ap (λ (x : Sendings). x.sent) step) (ap (λ (x : Sendings). x.waiting) step) h)

  sealed_step : (m : ℕ) (S : Sendings) (s : SealedEntry) (kind : Kind) → (same_kind kind Rtp && is_sending m s.ssrc (plain_in line.exts.now s.plain)) ≡ true
      → sending_step m S (sealed_event line.exts.now kind s)
      ≡ record S { waiting = filter (λ w. not (is_numbered s.index w)) S.waiting; sent = S.sent ++ map (λ w. (S.now, w)) (filter (is_numbered s.index) S.waiting) }
  sealed_step m S s Rtp e =
      ap (λ b. if b then record S { waiting = filter (λ w. not (is_numbered s.index w)) S.waiting; sent = S.sent ++ map (λ w. (S.now, w)) (filter (is_numbered s.index) S.waiting) } else S) e
  sealed_step m S s Rtcp e = absurd cc

  pub sealed_told : (s : SealedEntry) → entry ≡ Sealed s → sameb side.the_type s.side sender ≡ true → is_first line s ≡ true
      → (n : ℕ) → n ≡ s.index → (k : Carried) (f l r : Option ℕ) (at : ℕ) → r ≡ cond (n == k.number) (Some at) l → Stands (types_in line) k (sendings_on line past) f l at
      → Stands (types_in line) k (sendings_on line (past ++ happening_in line entry ∷ [])) f r (at + 1)
  sealed_told s is own first n number k f l r at new h =
      let S = sendings_on line past in
      let S' = sendings_on line (past ++ happening_in line entry ∷ []) in
      let step : S' ≡ record S { waiting = filter (λ w. not (is_numbered s.index w)) S.waiting; sent = S.sent ++ map (λ w. (S.now, w)) (filter (is_numbered s.index) S.waiting) } = ap (λ (x : Entry). sendings_on line (past ++ happening_in line x ∷ [])) is ∙ sendings_own line past s.side (sealed_event line.exts.now s.kind s) (side_is s.side sender (peer_of line.side) peer own) ∙ sealed_step line.ssrc S s s.kind first in
      let P : Option ℕ → Type 0 = λ o. Stands (types_in line) k S' f o (at + 1) in
      subst P (sym (new ∙ ap (λ m. cond (m == k.number) (Some at) l) number))
      (seals (types_in line) k S S' s.index f l at (s.index == k.number) refl (ap (λ (x : Sendings). x.sent) step, ap (λ (x : Sendings). x.waiting) step) h)
