-- Reports that come back tell of the packets sent which came, and when.
use Rattle.std.proofs.Common.{◌≡◌, ℕ, zero, suc, ◌+◌, ◌-◌, ◌%◌, ◌<◌, ◌≤◌, Bool, true, false, cond, leb, ltb, ◌&&◌, List, [], ◌∷◌, length, map, filter, Option, Some, None, refl, sym, ap, ◌∙◌, inl, arith}
use Rattle.std.specs.Prelude.{slice_get}
use Rattle.std.specs.List.{cons_option, filter_map}
use Rattle.std.specs.Option.{option_map}
use Rattle.std.proofs.lemmas.Bool.{le-ltb, lt-ltb, leb-true, leb-false, ltb-true, ltb-false}
use Rattle.rtp_base.specs.Widen.{widen16, WidensToItself}
use Rattle.twcc_core.specs.declared.feedback.Twcc.{Twcc}
use Rattle.twcc_core.specs.declared.send.TwccSendRecord.{TwccSendRecord}
use Rattle.twcc_core.specs.Reports.{arrival_of, report_rows}
use Rattle.twcc_core.specs.Times.{moments_of, held, held_from}
use Rattle.twcc_core.specs.Sending.{first_told, moment_told, with_report, record_told, told_by, is_among, with_arrival_of, ReportsComeBack}
use Rattle.twcc_core.proofs.Reporting.{something_due}
use Rattle.twcc_core.proofs.Telling.{made_of, reports_tell}

held_in : (arrivals : List (ℕ × ℕ)) (first n i : ℕ) → i < n → slice_get (held_from arrivals first n) i ≡ Some (option_map held (arrival_of arrivals (first + i)))
held_in arrivals first zero i lt = absurd (omega (arith, lt))
held_in arrivals first (suc n) zero lt = let k : first + 0 ≡ first = omega arith in rw k refl
held_in arrivals first (suc n) (suc i) lt = let k : first + suc i ≡ first + 1 + i = omega arith in rw k (held_in arrivals (first + 1) n i (omega (arith, lt)))

held_out : (arrivals : List (ℕ × ℕ)) (first n i : ℕ) → n ≤ i → slice_get (held_from arrivals first n) i ≡ None
held_out arrivals first zero i le = refl
held_out arrivals first (suc n) zero le = absurd (omega (arith, le))
held_out arrivals first (suc n) (suc i) le = held_out arrivals (first + 1) n i (omega (arith, le))

told_in : (arrivals : List (ℕ × ℕ)) (first n number : ℕ) → first ≤ number → number < first + n → moment_told first (held_from arrivals first n) number ≡ Some (option_map held (arrival_of arrivals number))
told_in arrivals first n number low high =
    let b : ltb number first ≡ false = le-ltb _ _ low in
    let k : first + (number - first) ≡ number = omega (arith, low) in
    let one : slice_get (held_from arrivals first n) (number - first) ≡ Some (option_map held (arrival_of arrivals (first + (number - first)))) = held_in arrivals first n (number - first) (omega (arith, low, high)) in
    let two = rw k at one in
    rw b two

told_above : (arrivals : List (ℕ × ℕ)) (first n number : ℕ) → first ≤ number → first + n ≤ number → moment_told first (held_from arrivals first n) number ≡ None
told_above arrivals first n number low high =
    let b : ltb number first ≡ false = le-ltb _ _ low in
    rw b (held_out arrivals first n (number - first) (omega (arith, low, high)))

told_below : (first : ℕ) (moments : List (Option ℕ)) (number : ℕ) → number < first → moment_told first moments number ≡ None
told_below first moments number lt = let b : ltb number first ≡ true = lt-ltb _ _ lt in rw b refl

one_told : (arrivals : List (ℕ × ℕ)) (first n now : ℕ) (r : TwccSendRecord) → record_told first (held_from arrivals first n) now r ≡ cond (is_among first n r) (Some (with_arrival_of arrivals now r)) None
one_told arrivals first n now r =
    elim (leb first r.id.seq) as (λ b. (leb first r.id.seq ≡ b) → record_told first (held_from arrivals first n) now r ≡ cond (b && ltb r.id.seq (first + n)) (Some (with_arrival_of arrivals now r)) None) [
      | true ↦ λ low.
          elim (ltb r.id.seq (first + n)) as (λ b. (ltb r.id.seq (first + n) ≡ b) → record_told first (held_from arrivals first n) now r ≡ cond b (Some (with_arrival_of arrivals now r)) None) [
            | true ↦ λ high. ap (option_map (with_report now r)) (told_in arrivals first n r.id.seq (leb-true _ _ low) (ltb-true _ _ high))
            | false ↦ λ high. ap (option_map (with_report now r)) (told_above arrivals first n r.id.seq (leb-true _ _ low) (ltb-false _ _ high))
          ] refl
      | false ↦ λ low. ap (option_map (with_report now r)) (told_below first (held_from arrivals first n) r.id.seq (leb-false _ _ low))
    ] refl

filtered : {X Y : Type 0} (p : X → Bool) (f : X → Y) (h : X → Option Y) (xs : List X) → ((x : X) → h x ≡ cond (p x) (Some (f x)) None) → filter_map h xs ≡ map f (filter p xs)
filtered p f h [] each = refl
filtered {X} {Y} p f h (x ∷ xs) each =
    ap (λ (o : Option Y). cons_option o (filter_map h xs)) (each x) ∙ ap (cons_option (cond (p x) (Some (f x)) None)) (filtered p f h xs each) ∙ here (p x)
  where
    here : (b : Bool) → cons_option (cond b (Some (f x)) None) (map f (filter p xs)) ≡ map f (cond b (x ∷ filter p xs) (filter p xs))
    here true = refl
    here false = refl

pub come_back : WidensToItself → ReportsComeBack
unfolding told_by
come_back widens s r sender ssrc limit now last t first small small' count w due early e sent low high few =
    let tells = reports_tell r sender ssrc limit t first small small' count w due early e in
    let rows = report_rows r.arrivals limit first in
    let is = made_of r sender ssrc first rows t (sym (something_due r sender ssrc limit first rows (sym due) refl).0 ∙ e) in
    let base : first.0 % 65536 ≡ t.base_seq = ap (λ (x : Twcc). x.base_seq) is in
    let near : widen16 (Some last) (first.0 % 65536) ≡ first.0 = (widens last first.0 few (omega (arith, low, few))).1 (inl (omega (arith, low), omega (arith, high), λ k. absurd (omega (arith, low, k)), λ k. absurd (omega (arith, high, k)))) in
    let begins : first_told s.records t ≡ first.0 = ap (λ (o : Option ℕ). widen16 o t.base_seq) sent ∙ ap (widen16 (Some last)) (sym base) ∙ near in
    let told : told_by s now t ≡ filter_map (record_told first.0 (held_from r.arrivals first.0 (length t.rows)) now) s.records =
    ap (λ (b : ℕ). filter_map (record_told b (moments_of t) now) s.records) begins ∙ ap (λ (m : List (Option ℕ)). filter_map (record_told first.0 m now) s.records) tells.1 in
    (tells.0, told ∙ filtered _ _ _ s.records (one_told r.arrivals first.0 (length t.rows) now))
