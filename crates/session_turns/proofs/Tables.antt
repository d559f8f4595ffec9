-- One poll of a stream of a table, as polls of the plain table that it mirrors.
use Rattle.std.proofs.Common.{◌≡◌, inl, inr, ℕ, zero, suc, ◌<◌, ◌^◌, Bool, true, false, ◌||◌, List, [], ◌∷◌, ◌++◌, Option, Some, None, refl, sym, ap, ◌∙◌, subst, append_assoc}
use Rattle.std.specs.Prelude.{slice_get, option_and_then}
use Rattle.std.specs.List.{AllByRecursion, AllZip}
use Rattle.std.specs.Map.{keys_of, values_of}
use Rattle.std.proofs.lemmas.Bool.{eq-eqb}
use Rattle.std.proofs.lemmas.Option.{none-some, same_Some}
use Rattle.rtp_wire.specs.declared.extension.ExtensionMap.{ExtensionMap}
use Rattle.rtp_wire.specs.HeaderLaws.{WrittenIsReadAgain}
use Rattle.srtp_core.specs.Cipher.{CipherMeaning}
use Rattle.srtp_core.specs.Contexts.{SrtpState}
use Rattle.stream_core.specs.declared.payload_types.TypeRow.{TypeRow}
use Rattle.stream_core.specs.declared.stream_tx.PacketReceipt.{PacketReceipt}
use Rattle.stream_core.specs.declared.transport.Transport.{Transport}
use Rattle.stream_core.specs.Repairing.{RepairsRecord, rtx_type_of, IsUsedUp, Polls, without, again, first, nothing, repairs_of, with_repairs}
use Rattle.stream_core.specs.Tables.{value_under, change_place, change_at}
use Rattle.stream_core.specs.TxRecord.{TxRecord as StreamTx}
use Rattle.session_core.specs.SessionRecord.{MediaRecord}
use Rattle.run_model.specs.Events.{Event, Types, Outgoing}
use Rattle.run_model.specs.Seals.{Sealing}
use Rattle.run_model.specs.TxPlay.{TxRecord, Serves, rests as no_polls, polls}
use Rattle.run_model.specs.Tables.{Table, lines, has, AllStrange, AreApart, here, there, ServesAll, rests, reports, more, IsUsedUpIn}
use Rattle.session_turns.specs.Mirrors.{IsWide}
use Rattle.session_turns.proofs.Polls.{Mid, types, sealing, events_given, Polled, polls_mirror, UsedUp, used_up_mirrors}
use Rattle.session_turns.proofs.Keys.{changed_value, other_value}
use Rattle.rtp_base.specs.Window.{is_just}

-- polls of a stream, and of those behind it, are polls of the streams of a table
many_here : {T : Types} {S : Sealing} {now : ℕ} (L : Outgoing) (rest : Table) {t u : TxRecord} {events : List Event} → Serves T L S now t u events → ServesAll T S now ((L, t) ∷ rest) ((L, u) ∷ rest) events
many_here L rest no_polls = rests
many_here L rest (polls p others) = more (here L p) (many_here L rest others)

many_there : {T : Types} {S : Sealing} {now : ℕ} (s : Outgoing × TxRecord) {xs ys : Table} {events : List Event} → ServesAll T S now xs ys events → ServesAll T S now (s ∷ xs) (s ∷ ys) events
many_there s rests = rests
many_there s (reports index items others) = reports index items (many_there s others)
many_there s (more p others) = more (there s p) (many_there s others)

pub many_append : {T : Types} {S : Sealing} {now : ℕ} {xs ys zs : Table} {events rest : List Event} → ServesAll T S now xs ys events → ServesAll T S now ys zs rest → ServesAll T S now xs zs (events ++ rest)
many_append rests rest = rest
many_append (reports index items others) behind = reports index items (many_append others behind)
many_append {T} {S} {now} {zs = zs} {rest = rest} (more {xs = xs} {events = these} {rest = those} p others) behind =
    subst (λ (l : List Event). ServesAll T S now xs zs l) (sym (append_assoc these those rest)) (more p (many_append others behind))

-- streams that are apart have SSRCs apart
strange_ssrc : (L M : Outgoing) → ((ssrc : ℕ) → has L ssrc ≡ true → has M ssrc ≡ false) → L.ssrc ≡ M.ssrc → ⊥
strange_ssrc L M strange same =
    let own : has L L.ssrc ≡ true = ap (λ (b : Bool). b || is_just L.ssrc L.rtx) (eq-eqb L.ssrc L.ssrc refl) in
    let not : has M L.ssrc ≡ false = strange L.ssrc own in
    let yes : has M L.ssrc ≡ true = ap (λ (b : Bool). b || is_just L.ssrc M.rtx) (eq-eqb L.ssrc M.ssrc same) in
    let wrong : true ≡ false = sym yes ∙ not in
    absurd cc

pub keys_changed : {X : Type 0} (f : X → X) (es : List (ℕ × X)) (i : ℕ) → keys_of (change_place f es i) ≡ keys_of es
keys_changed f [] i = refl
keys_changed f (e ∷ es) zero = refl
keys_changed f (e ∷ es) (suc i) = ap (λ ns. e.0 ∷ ns) (keys_changed f es i)

-- what other streams send again is as it was
same_repairs : (k : ℕ) (q : Option RepairsRecord) (qs : List (ℕ × RepairsRecord)) (y : StreamTx) → (y.ssrc ≡ k → ⊥) → repairs_of y (with_repairs k q qs) ≡ repairs_of y qs
same_repairs k None qs y apart = refl
same_repairs k (Some q) qs y apart = ap (λ (v : Option RepairsRecord). option_and_then (λ (rtx : ℕ). v) y.rtx) (other_value k y.ssrc (λ old. q) qs apart)

changed_repairs : (x : StreamTx) (ssrc : ℕ) (q new : RepairsRecord) (qs : List (ℕ × RepairsRecord)) → x.rtx ≡ Some ssrc → Some q ≡ repairs_of x qs → repairs_of x (with_repairs x.ssrc (Some new) qs) ≡ Some new
changed_repairs x ssrc q new qs has is =
    let was : value_under x.ssrc qs ≡ Some q = sym (is ∙ ap (option_and_then (λ (rtx : ℕ). value_under x.ssrc qs)) has) in
    ap (option_and_then (λ (rtx : ℕ). value_under x.ssrc (change_at x.ssrc (λ old. new) qs))) has ∙ changed_value x.ssrc new q qs was

-- what the stream itself sends again is what the poll left
own_repairs : (rows : List (ℕ × TypeRow)) (t : Transport) (now : ℕ) (x y : StreamTx) (p q : Option RepairsRecord) (o : Option PacketReceipt) (qs : List (ℕ × RepairsRecord))
    → p ≡ repairs_of x qs → Polls rows t now x p y q o → repairs_of y (with_repairs x.ssrc q qs) ≡ q
own_repairs rows t now x _ _ _ _ qs is without = sym is
own_repairs rows t now x _ _ _ _ qs is (again ssrc q after receipt has repairs) = changed_repairs x ssrc q after qs has is
own_repairs rows t now x _ _ _ _ qs is (first ssrc q between after p has repairs next keeps) = changed_repairs x ssrc q after qs has is
own_repairs rows t now x _ _ _ _ qs is (nothing ssrc q after has repairs next) = changed_repairs x ssrc q after qs has is

module _ (cipher : CipherMeaning) (own : SrtpState) (exts : ExtensionMap) (read_again : WrittenIsReadAgain) (rows : List (ℕ × TypeRow)) (medias : List MediaRecord) (now : ℕ) where
  abbrev pub T : Types
  T = types cipher own exts read_again rows medias now

  abbrev pub S : Sealing
  S = sealing cipher own exts read_again rows medias now

  abbrev pub given_in : Option PacketReceipt → List Event
  given_in o = events_given cipher own exts read_again rows medias now o

  abbrev pub MidAt : List (ℕ × RepairsRecord) → ℕ × StreamTx → Outgoing × TxRecord → Type 0
  MidAt qs e s = Mid rows medias now (repairs_of e.1 qs) e.0 e.1 s.0 s.1

  -- after polls that give nothing, no number is left for a repair that is due
  pub record TableUsedUp (xs : Table) (ssrc : ℕ) : Type 0 where
    pub table : Table
    pub many : ServesAll T S now xs table []
    pub used_up : IsUsedUpIn ssrc table

  module _ (qs : List (ℕ × RepairsRecord)) (x : StreamTx) (ssrc : ℕ) (has : x.rtx ≡ Some ssrc) (q : RepairsRecord) (again_is : repairs_of x qs ≡ Some q) (up : IsUsedUp now q) where
    used_up_here : (e : ℕ × StreamTx) (s : Outgoing × TxRecord) → e.1 ≡ x → MidAt qs e s → UsedUp cipher own exts read_again rows medias now s.0 s.1 ssrc
    used_up_here e s is m =
        used_up_mirrors cipher own exts read_again rows medias now s.0 e.0 x s.1 q
        (subst (λ (p : Option RepairsRecord). Mid rows medias now p e.0 x s.0 s.1) again_is (subst (λ (z : StreamTx). Mid rows medias now (repairs_of z qs) e.0 z s.0 s.1) is m))
        ssrc has up

    pub table_used_up : (es : List (ℕ × StreamTx)) (place : ℕ) (xs : Table) → AllZip (MidAt qs) es xs → slice_get (values_of es) place ≡ Some x → TableUsedUp xs ssrc
    table_used_up [] place xs m at = absurd (none-some x at)
    table_used_up (e ∷ es) place [] m at = absurd m
    table_used_up (e ∷ es) zero (s ∷ xs) m at =
        let u = used_up_here e s (same_Some e.1 x at) m.0 in
        record { table = (s.0, u.plain) ∷ xs; many = many_here s.0 xs u.chain; used_up = ((s.0, u.plain), inl refl, u.rtx, u.next, u.due) }
    table_used_up (e ∷ es) (suc place) (s ∷ xs) m at =
        let u = table_used_up es place xs m.1 at in
        let i = u.used_up in
        record { table = s ∷ u.table; many = many_there s u.many; used_up = (i.0, inr i.1, i.2, i.3, i.4) }

  module _ (transport : Transport) (ids : transport.exts ≡ exts) (types_fit : (pt rtx : ℕ) → rtx_type_of rows pt ≡ Some rtx → rtx < 2 ^ 7)
      (qs : List (ℕ × RepairsRecord)) (x y : StreamTx) (q : Option RepairsRecord) (o : Option PacketReceipt) (poll : Polls rows transport now x (repairs_of x qs) y q o) where
    abbrev left_qs : List (ℕ × RepairsRecord)
    left_qs = with_repairs x.ssrc q qs

    abbrev changed : List (ℕ × StreamTx) → ℕ → List (ℕ × StreamTx)
    changed es i = change_place (λ old. y) es i

    pub record TablePolled (es : List (ℕ × StreamTx)) (place : ℕ) (xs : Table) : Type 0 where
      pub table : Table
      pub many : ServesAll T S now xs table (given_in o)
      pub mid : AllZip (MidAt left_qs) (changed es place) table
      pub same_lines : lines table ≡ lines xs

    stays : (e : ℕ × StreamTx) (s : Outgoing × TxRecord) → MidAt qs e s → (s.0.ssrc ≡ x.ssrc → ⊥) → MidAt left_qs e s
    stays e s m apart =
        subst (λ (p : Option RepairsRecord). Mid rows medias now p e.0 e.1 s.0 s.1) (sym (same_repairs x.ssrc q qs e.1 (λ same. apart (sym m.ssrc ∙ same)))) m

    all_stay : (L : Outgoing) → L.ssrc ≡ x.ssrc → (es : List (ℕ × StreamTx)) (xs : Table) → AllStrange L (lines xs) → AllZip (MidAt qs) es xs → AllZip (MidAt left_qs) es xs
    all_stay L is [] [] strange m = tt
    all_stay L is [] (s ∷ xs) strange m = absurd m
    all_stay L is (e ∷ es) [] strange m = absurd m
    all_stay L is (e ∷ es) (s ∷ xs) strange m = (stays e s m.0 (λ same. strange_ssrc L s.0 strange.0 (is ∙ sym same)), all_stay L is es xs strange.1 m.1)

    strange_at : (L : Outgoing) (es : List (ℕ × StreamTx)) (xs : Table) (place : ℕ) → AllStrange L (lines xs) → AllZip (MidAt qs) es xs → slice_get (values_of es) place ≡ Some x → L.ssrc ≡ x.ssrc → ⊥
    strange_at L [] xs place strange m at = absurd (none-some x at)
    strange_at L (e ∷ es) [] place strange m at = absurd m
    strange_at L (e ∷ es) (s ∷ xs) zero strange m at =
        λ same. strange_ssrc L s.0 strange.0 (same ∙ ap (λ (z : StreamTx). z.ssrc) (sym (same_Some e.1 x at)) ∙ m.0.ssrc)
    strange_at L (e ∷ es) (s ∷ xs) (suc place) strange m at = strange_at L es xs place strange.1 m.1 at

    poll_here : (e : ℕ × StreamTx) (s : Outgoing × TxRecord) → e.1 ≡ x → IsWide s.0 → MidAt qs e s → Polled cipher own exts read_again rows medias now e.0 y s.0 s.1 q o
    poll_here e s is wide m =
        polls_mirror cipher own exts read_again rows medias now s.0 transport ids types_fit wide e.0 x s.1 (repairs_of x qs) q y o
        (subst (λ (z : StreamTx). Mid rows medias now (repairs_of z qs) e.0 z s.0 s.1) is m) poll

    pub table_polls : (es : List (ℕ × StreamTx)) (place : ℕ) (xs : Table) → AllZip (MidAt qs) es xs → AreApart (lines xs) → AllByRecursion IsWide (lines xs)
        → slice_get (values_of es) place ≡ Some x → TablePolled es place xs
    table_polls [] place xs m apart wide at = absurd (none-some x at)
    table_polls (e ∷ es) place [] m apart wide at = absurd m
    table_polls (e ∷ es) zero (s ∷ xs) m apart wide at =
        let is : e.1 ≡ x = same_Some e.1 x at in
        let p = poll_here e s is wide.0 m.0 in
        record {
          table = (s.0, p.plain) ∷ xs;
          many = many_here s.0 xs p.chain;
          mid = (
            subst (λ (r : Option RepairsRecord). Mid rows medias now r e.0 y s.0 p.plain) (sym (own_repairs rows transport now x y (repairs_of x qs) q o qs refl poll)) p.mid,
            all_stay s.0 (sym m.0.ssrc ∙ ap (λ (z : StreamTx). z.ssrc) is) es xs apart.1.0 m.1,
          );
          same_lines = refl;
        }
    table_polls (e ∷ es) (suc place) (s ∷ xs) m apart wide at =
        let p = table_polls es place xs m.1 apart.1.1 wide.1 at in
        record {
          table = s ∷ p.table;
          many = many_there s p.many;
          mid = (stays e s m.0 (strange_at s.0 es xs place apart.1.0 m.1 at), p.mid);
          same_lines = ap (λ (l : List Outgoing). s.0 ∷ l) p.same_lines;
        }
