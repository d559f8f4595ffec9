-- Whether what is opened on a line widens.
use Rattle.std.proofs.Common.{◌≡◌, ◌+◌, ◌*◌, ◌/◌, ◌%◌, ℕ, Bool, true, false, ◌&&◌, ◌||◌, inl, inr, List, [], ◌∷◌, ◌++◌, Option, Some, None, refl, sym, ap, ◌∙◌, subst, arith}
use Rattle.std.specs.Prelude.{◌==◌, if◌then◌else◌}
use Rattle.std.specs.List.{list_any, fold}
use Rattle.std.specs.Int.{w16, to_be_bytes}
use Rattle.std.specs.Str.{bytes_eq}
use Rattle.std.specs.Cmp.{booleans_Decides}
use mathlib.Core.Bool.{beq}
use Rattle.std.proofs.lemmas.List.Sums.{fold-append}
use Rattle.std.proofs.lemmas.Bool.{eqb-true, eq-eqb}
use Rattle.std.proofs.lemmas.Slice.Eq.{bytes_eq-Decides}
use Rattle.rtp_base.specs.Widen.{widen16, rollover}
use Rattle.rtp_base.specs.declared.kind.Kind.{Kind}
use Rattle.rtp_base.specs.declared.kind.Kind.TheVariants.{Rtp}
use Rattle.repair_core.specs.Fresh.{greatest_of}
use Rattle.media_model.specs.declared.entry.Side.{Side}
use Rattle.media_model.specs.declared.entry.Side.TheVariants.{A, B}
use Rattle.media_model.specs.declared.entry.Write.{Write}
use Rattle.media_model.specs.declared.entry.Opened.{Opened as OpenedEntry}
use Rattle.media_model.specs.declared.entry.Entry.{Entry}
use Rattle.media_model.specs.declared.entry.Entry.TheVariants.{Opened}
use Rattle.media_model.specs.Sides.{same_side}
use Rattle.run_model.specs.Events.{Plain, opened, Types}
use Rattle.run_model.specs.Listing.{IsIn}
use Rattle.run_model.specs.Runs.{Happening, event_of, events_of, without_padding}
use Rattle.run_model.specs.Receiving.{Lists, no_lists, lists, list_step, concerns, is_repair, begun_taken, cut, restored_by, after_first, after_repair, after_opened, with_tried as lists_tried, with_restored as lists_restored}
use Rattle.rtp_wire.specs.Repairs.{original_number}
use Rattle.run_model.specs.Sending.{Carries, two_bytes}
use Rattle.run_model.specs.Transcripts.{is_type, plain_in, opened_event}
use Rattle.run_widens.specs.declared.line.Line.{Line}
use Rattle.run_widens.specs.declared.packet.Packet.{Packet}
use Rattle.run_widens.specs.declared.sent.Carried.{Carried}
use Rattle.run_widens.specs.declared.sent.Sent.{Sent}
use Rattle.run_widens.specs.declared.taken.Taken.{Taken}
use Rattle.run_widens.specs.Lines.{types_in, incoming_in, is_repair_type, happening_in}
use Rattle.run_widens.specs.Packets.{plain_of, Repairs}
use Rattle.run_widens.specs.Sent.{carried_by, is_before, first_of, last_of, any_sent, sendings_on, Holds}
use Rattle.run_widens.specs.Taken.{with_first, with_tried, with_restored, taken_of}
use Rattle.run_widens.specs.Widens.{lists_on, taken_on, Widens, Told, IsCarried, AfterRepair, nothing, something}
use Rattle.run_widens.proofs.SentLaws.{events_more, event_own}
use Rattle.run_widens.proofs.TakenLaws.{of_first, of_tried, of_restored}

-- lists and tests

any_found : {X : Type 0} (test : X → Bool) (xs : List X) → list_any test xs ≡ true → (x : X) × IsIn x xs × (test x ≡ true)
any_found test [] e = absurd cc
any_found {X} test (x ∷ xs) e = go (λ h. any_found test xs h) (test x) refl e where
  go : (list_any test xs ≡ true → (y : X) × IsIn y xs × (test y ≡ true)) → (b : Bool) → test x ≡ b → (b || list_any test xs) ≡ true → (y : X) × IsIn y (x ∷ xs) × (test y ≡ true)
  go next true p e' = (x, inl refl, p)
  go next false p e' = let f = next e' in (f.0, inr f.1, f.2)

or_true : (b : Bool) → (b || true) ≡ true
or_true true = refl
or_true false = refl

any_in : {X : Type 0} (test : X → Bool) (x : X) (xs : List X) → IsIn x xs → test x ≡ true → list_any test xs ≡ true
any_in test x [] h e = absurd h
any_in test x (y ∷ ys) (inl p) e = ap (λ z. test z || list_any test ys) (sym p) ∙ ap (λ b. b || list_any test ys) e
any_in test x (y ∷ ys) (inr h) e = ap (λ b. test y || b) (any_in test x ys h e) ∙ or_true (test y)

both : (a b : Bool) → (a && b) ≡ true → (a ≡ true) × (b ≡ true)
both true b e = (refl, e)
both false b e = absurd cc

side_same : (a b : Side) → same_side a b ≡ true → b ≡ a
side_same A A e = refl
side_same A B e = absurd cc
side_same B A e = absurd cc
side_same B B e = refl

-- the number that a repair restores has the two bytes of the repair

wide : (r low : ℕ) → two_bytes (r * 65536 + low) ≡ two_bytes low
wide r low =
    let same : (r * 65536 + low) % 65536 ≡ low % 65536 = omega arith in
    ap (to_be_bytes w16) same

widened : (last : Option ℕ) (low : ℕ) → two_bytes (widen16 last low) ≡ two_bytes low
widened None low = refl
widened (Some p) low = wide (rollover 32768 (p / 65536) (p % 65536) low) low

-- what a repair carries

type_is : (pt : ℕ) (o : Option ℕ) → is_type pt o ≡ true → o ≡ Some pt
type_is pt None e = absurd cc
type_is pt (Some rtx) e = ap Some (eqb-true rtx pt e)

module _ (T : Types) (k : Carried) (packet : Packet) (rest : List ℕ) (carried : IsCarried k packet rest) (split : cut (plain_of packet) ≡ two_bytes k.number ++ rest) (w : Write) where
  told : carried_by T k w ≡ true → (w.number ≡ k.number) × Carries T (without_padding (plain_of packet)) w
  told e =
      let a = both _ _ e in
      let b = both _ _ a.1 in
      let d = both _ _ b.1 in
      let f = both _ _ d.1 in
      let g = both _ _ f.1 in
      let number = eqb-true w.number k.number a.0 in
      let payload : w.payload ≡ rest = (bytes_eq-Decides w.payload k.payload.now).0 g.1 ∙ carried.payload in (
        number,
        record {
          type = type_is k.pt (T.rtx_of w.pt) b.0 ∙ ap Some carried.type;
          marker = sym ((booleans_Decides w.marker k.marker).0 d.0 ∙ carried.marker);
          time = sym (eqb-true w.rtp_time k.time f.0 ∙ carried.time);
          csrc = sym ((bytes_eq-Decides w.csrc k.csrc.now).0 g.0 ∙ carried.csrc);
          payload = split ∙ (λ i. two_bytes (sym number i) ++ sym payload i);
        },
      )

  passes : w.number ≡ k.number → Carries T (without_padding (plain_of packet)) w → carried_by T k w ≡ true
  passes number h =
      let a : (w.number == k.number) ≡ true = eq-eqb w.number k.number number in
      let b : is_type k.pt (T.rtx_of w.pt) ≡ true = ap (is_type k.pt) h.type ∙ eq-eqb packet.pt k.pt (sym carried.type) in
      let d : beq w.marker k.marker ≡ true = (booleans_Decides w.marker k.marker).1 (sym (carried.marker ∙ h.marker)) in
      let f : (w.rtp_time == k.time) ≡ true = eq-eqb w.rtp_time k.time (sym (carried.time ∙ h.time)) in
      let g : bytes_eq w.csrc k.csrc.now ≡ true = (bytes_eq-Decides w.csrc k.csrc.now).1 (sym (carried.csrc ∙ h.csrc)) in
      let same : (k.number % 65536 / 256 % 256) ∷ (k.number % 65536 % 256) ∷ rest ≡ (k.number % 65536 / 256 % 256) ∷ (k.number % 65536 % 256) ∷ w.payload = sym split ∙ h.payload ∙ ap (λ n. two_bytes n ++ w.payload) number in
      let tail : rest ≡ w.payload = cc in
      let m : bytes_eq w.payload k.payload.now ≡ true = (bytes_eq-Decides w.payload k.payload.now).1 (sym (carried.payload ∙ tail)) in
      λ i. a i && (b i && (d i && (f i && (g i && m i))))

-- an RTP datagram that is opened on the line

lists_more : (line : Line) (past : List Happening) (h : Happening)
    → lists_on line (past ++ h ∷ []) ≡ fold (list_step (types_in line) (incoming_in line)) (lists_on line past) (event_of line.side h)
lists_more line past h =
    ap (lists (types_in line) (incoming_in line)) (events_more line.side past h) ∙ fold-append (list_step (types_in line) (incoming_in line)) no_lists (events_of line.side past) (event_of line.side h)

module _ (line : Line) (past : List Happening) (entry : Entry) (o : OpenedEntry) (is : entry ≡ Opened o) (own : same_side line.side o.side ≡ true) (rtp : o.kind ≡ Rtp)
    (mine : concerns (incoming_in line) o.ssrc ≡ true) where
  abbrev p : Plain
  p = plain_in line.exts.now o.plain

  abbrev h : Happening
  h = (o.side, opened o.ssrc o.index p)

  abbrev l : Lists
  l = lists_on line past

  happens : happening_in line entry ≡ h
  happens = ap (happening_in line) is ∙ ap (λ (k : Kind). (o.side, opened_event line.exts.now k o)) rtp

  lists_told : lists_on line (past ++ h ∷ []) ≡ after_opened (types_in line) (incoming_in line) l o.ssrc o.index p
  lists_told =
      lists_more line past h ∙ ap (fold (list_step (types_in line) (incoming_in line)) l) (event_own line.side o.side (opened o.ssrc o.index p) own)
      ∙ ap (λ b. if b then after_opened (types_in line) (incoming_in line) l o.ssrc o.index p else l) mine

  -- one that is no repair
  pub first_told : (pt : ℕ) → pt ≡ p.pt → is_repair_type line o.ssrc pt ≡ false → (t u : Taken) → t ≡ taken_on line past → u ≡ with_first o.index t
      → Widens line past (happening_in line entry) × (u ≡ taken_on line (past ++ happening_in line entry ∷ []))
  first_told pt type first t u before after =
      let none : is_repair (types_in line) (incoming_in line) o.ssrc p ≡ false = ap (is_repair_type line o.ssrc) (sym type) ∙ first in
      let P : Happening → Type 0 = λ x. Widens line past x × (u ≡ taken_on line (past ++ x ∷ [])) in
      subst P (sym happens) (
        λ a b d q e. absurd (cc (none, d)),
        after ∙ ap (with_first o.index) before ∙ sym (of_first l o.index)
            ∙ ap (λ b. taken_of (if b then after_repair (incoming_in line) l o.ssrc o.index p else after_first l o.index)) (sym none) ∙ ap taken_of (sym lists_told),
      )

  abbrev l1 : Lists
  l1 = lists_tried (incoming_in line) l o.ssrc o.index

  module _ (repair : is_repair (types_in line) (incoming_in line) o.ssrc p ≡ true) where
    after_told : taken_on line (past ++ h ∷ []) ≡ taken_of (lists_restored l1 (restored_by l1 (original_number (cut p))))
    after_told =
        ap taken_of lists_told
        ∙ ap (λ b. taken_of (if b then after_repair (incoming_in line) l o.ssrc o.index p else after_first l o.index)) repair

    no_number : (u : Taken) → u ≡ taken_of l1 → original_number (cut p) ≡ None → Told line past h (Some u)
    no_number u tried none = (
      λ a b d q e. absurd (cc (ap (restored_by l1) (sym none) ∙ e)),
      tried ∙ ap (λ x. taken_of (lists_restored l1 (restored_by l1 x))) (sym none) ∙ sym after_told,
    )

    module _ (sent : Sent) (at : ℕ) (holds : Holds line sent at past) (packet : Packet) (plain : plain_of packet ≡ p) (u : Taken) (tried : u ≡ taken_of l1)
        (k : Carried) (low : ℕ) (rest : List ℕ) (repairs : Repairs packet low rest) (number : k.number ≡ widen16 u.greatest low) (carried : IsCarried k packet rest) where
      widens_to : k.number ≡ widen16 (greatest_of (begun_taken l1)) low
      widens_to = number ∙ ap (λ (t : Taken). widen16 t.greatest low) tried

      low_is : original_number (cut p) ≡ Some low
      low_is = ap (λ x. original_number (cut x)) (sym plain) ∙ repairs.low

      restores : restored_by l1 (original_number (cut p)) ≡ Some k.number
      restores = ap (restored_by l1) low_is ∙ ap Some (sym widens_to)

      split : cut (plain_of packet) ≡ two_bytes k.number ++ rest
      split = repairs.split ∙ ap (λ bs. bs ++ rest) (sym (ap two_bytes number ∙ widened u.greatest low))

      abbrev known : Bool
      known = any_sent (types_in line) k (sendings_on line past).sent

      does : known ≡ true → Told line past h (Some (with_restored k.number u))
      does e = (
        λ a b d q f.
            let same : k.number ≡ q = cc (restores, f) in
            let found = any_found (λ (x : ℕ × Write). carried_by (types_in line) k x.1) (sendings_on line past).sent e in
            let carries = told (types_in line) k packet rest carried split found.0.1 found.2 in
            (found.0, found.1, carries.0 ∙ same, subst (λ x. Carries (types_in line) (without_padding x) found.0.1) plain carries.1),
        ap (with_restored k.number) tried ∙ sym (of_restored l1 k.number) ∙ ap (λ x. taken_of (lists_restored l1 x)) (sym restores) ∙ sym after_told,
      )

      does_not : known ≡ false → Told line past h None
      does_not e widens =
          let found = widens (side_same line.side o.side own) mine repair k.number restores in
          let passed = passes (types_in line) k packet rest carried split found.0.1 found.2 (subst (λ x. Carries (types_in line) (without_padding x) found.0.1) (sym plain) found.3) in
          absurd (cc (any_in (λ (x : ℕ × Write). carried_by (types_in line) k x.1) found.0 (sendings_on line past).sent found.1 passed, e))

      either : (r : Option Taken) → r ≡ (if is_before (first_of sent k) (last_of sent k.number) then Some (with_restored k.number u) else None) → Told line past h r
      either r is' = go known refl where
        go : (b : Bool) → known ≡ b → Told line past h r
        go true e = subst (Told line past h) (sym (is' ∙ ap (λ b. let t : Option Taken = if b then Some (with_restored k.number u) else None in t) (sym (holds k).sent ∙ e))) (does e)
        go false e = subst (Told line past h) (sym (is' ∙ ap (λ b. let t : Option Taken = if b then Some (with_restored k.number u) else None in t) (sym (holds k).sent ∙ e))) (does_not e)

    told_of : (sent : Sent) (at : ℕ) → Holds line sent at past → (packet : Packet) → plain_of packet ≡ p → (u : Taken) → u ≡ taken_of l1 → (r : Option Taken) → AfterRepair u sent packet r → Told line past h r
    told_of sent at holds packet plain u tried r (nothing none is') = subst (Told line past h) (sym is') (no_number u tried (ap (λ x. original_number (cut x)) (sym plain) ∙ none))
    told_of sent at holds packet plain u tried r (something k low rest repairs number carried is') = either sent at holds packet plain u tried k low rest repairs number carried r is'

  -- a repair
  pub repair_told : (packet : Packet) → plain_of packet ≡ p → is_repair_type line o.ssrc packet.pt ≡ true → (sent : Sent) (at : ℕ) → Holds line sent at past
      → (t u : Taken) → t ≡ taken_on line past → u ≡ with_tried (o.ssrc == line.ssrc) o.index t → (r : Option Taken) → AfterRepair u sent packet r → Told line past (happening_in line entry) r
  repair_told packet plain type sent at holds t u before tried r after =
      let P : Happening → Type 0 = λ x. Told line past x r in
      subst P (sym happens)
      (told_of (ap (λ (x : Plain). is_repair (types_in line) (incoming_in line) o.ssrc x) (sym plain) ∙ type) sent at holds packet plain u
      (tried ∙ ap (with_tried (o.ssrc == line.ssrc) o.index) before ∙ sym (of_tried (incoming_in line) l o.ssrc o.index)) r after)
