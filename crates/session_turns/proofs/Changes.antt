-- An incoming stream, and the plain one that it mirrors, as a datagram of it opens.
use Rattle.std.proofs.Common.{◌≡◌, ◌⊎◌, inl, inr, ℕ, ◌+◌, ◌-◌, ◌^◌, ◌≤◌, Bool, true, false, List, [], ◌∷◌, ◌++◌, Option, Some, None, refl, sym, ap, ◌∙◌, subst}
use Rattle.std.specs.Prelude.{◌==◌, min, unwrap_or, if◌then◌else◌}
use Rattle.std.proofs.lemmas.Bool.{eq-eqb, ne_eqb, false≢true, or_parts, cases_eq}
use Rattle.rtp_base.specs.Widen.{widen16}
use Rattle.rtp_base.specs.Window.{is_fresh_rtx, is_fresh_after, is_just}
use Rattle.repair_core.specs.Fresh.{greatest_of, is_fresh}
use Rattle.repair_core.specs.Rounds.{started_at, came, taken}
use Rattle.rtx_core.specs.Repairs.{is_fresh_repair, repair_opened}
use Rattle.rtp_wire.specs.declared.header.RtpHeader.{RtpHeader}
use Rattle.stream_core.specs.declared.reports.Arrival.{Arrival}
use Rattle.stream_core.specs.declared.reports.RxReports.{RxReports}
use Rattle.stream_core.specs.Arrivals.{with_arrival, with_late}
use Rattle.stream_core.specs.RxRecord.{RxState, RxRecord as StreamRx, heard, taken_of, number_with, fresh_number, opened_as}
use Rattle.stream_core.specs.RxRepairs.{own_number, repair_came, restored_for, restored as restored_fresh, after_restored, with_packet}
use Rattle.stream_core.specs.Seen.{seen_of as greatest_seen, is_unseen, saw}
use Rattle.stream_core.specs.Tables.{value_under}
use Rattle.session_core.specs.Repairs.{repair_accepted}
use Rattle.run_model.specs.Events.{Incoming}
use Rattle.run_model.specs.Receiving.{Lists, concerns, seen_of, begun_taken, floor_with, floor_of, base_with}
use Rattle.run_model.specs.RxPlay.{RxRecord, lists_in, register, rx_first, rx_tried, rx_restored}
use Rattle.session_turns.specs.Mirrors.{MirrorsSeen, MirrorsPast, rtx_seen, HasBegun, RxMirrors}
use Rattle.session_turns.proofs.Records.{seen_greatest, unseen_same, saw_main, saw_other, saw_rtx, saw_rtx_other, heard_is, register_takes, with_number_some, base_same, fresh_same, past_opened, pause_is, where_fresh}
use Rattle.session_turns.proofs.OpenedStreams.{IsLine, concerned, not_main}

-- the number that a repair restores
abbrev pub restored_at : Lists → ℕ → ℕ
restored_at l low = widen16 (greatest_of (begun_taken l)) low

-- the own number of a repair, and whether it is fresh
abbrev pub own_at : Incoming → Lists → ℕ → ℕ → ℕ
own_at L l m low = widen16 (base_with (floor_of L l m) l.tried) low

abbrev pub is_own_fresh : Incoming → Lists → ℕ → Bool → ℕ → Bool
is_own_fresh L l m padded n = if padded then is_fresh_rtx (seen_of L l m) n else is_fresh_after (floor_of L l m) l.tried n

-- what a stream keeps for its reports after a repair restored a fresh number, or one that was not fresh
abbrev pub reports_restored : Arrival → Option ℕ → RxReports → RxReports
reports_restored arrival None reports = with_late arrival reports
reports_restored arrival (Some n) reports = with_arrival arrival n reports

abbrev fresh_in : Option ℕ → List ℕ → ℕ → Option ℕ
fresh_in roc l low = where_fresh (is_fresh l (number_with roc l low)) (number_with roc l low)

module _ {threshold : ℕ} {seen : List (ℕ × List ℕ)} {x : StreamRx} {s : Incoming × RxRecord} (k : RxMirrors threshold seen x s) where
  remembered_main : greatest_seen s.0.ssrc seen ≡ greatest_of s.1.seen_main
  remembered_main = seen_greatest (value_under s.0.ssrc seen) s.1.seen_main k.seen_main

  heard_same : heard (greatest_seen s.0.ssrc seen) x ≡ register s.1.seen_main s.1.numbers
  heard_same = ap (λ o. unwrap_or o (started_at (greatest_seen s.0.ssrc seen))) k.numbers ∙ heard_is (greatest_seen s.0.ssrc seen) s.1.seen_main s.1.numbers remembered_main

  taken_same : taken_of (greatest_seen s.0.ssrc seen) x ≡ begun_taken (lists_in s.1)
  taken_same = ap taken heard_same ∙ register_takes s.1.seen_main s.1.numbers k.begun

  -- a first sending
  pub number_is : (low : ℕ) → fresh_number (greatest_seen s.0.ssrc seen) x low
      ≡ where_fresh (is_fresh (begun_taken (lists_in s.1)) (restored_at (lists_in s.1) low)) (restored_at (lists_in s.1) low)
  number_is low = ap (λ roc. fresh_in roc (taken_of (greatest_seen s.0.ssrc seen) x) low) k.roc ∙ ap (λ l. fresh_in None l low) taken_same

  -- the number that a repair restores
  pub restored_is : (low : ℕ) → restored_for (greatest_seen s.0.ssrc seen) x low ≡ restored_at (lists_in s.1) low
  restored_is low = ap (λ l. widen16 (greatest_of l) low) taken_same

  pub restored_where : (low : ℕ) → restored_fresh (greatest_seen s.0.ssrc seen) x low
      ≡ where_fresh (is_fresh (begun_taken (lists_in s.1)) (restored_at (lists_in s.1) low)) (restored_at (lists_in s.1) low)
  restored_where low = ap (λ l. where_fresh (is_fresh l (widen16 (greatest_of l) low)) (widen16 (greatest_of l) low)) taken_same

  -- the numbers seen under an SSRC of the stream
  main_list : (m : ℕ) → m ≡ s.0.ssrc → s.1.seen_main ≡ seen_of s.0 (lists_in s.1) m
  main_list m is = sym (ap (λ b. if b then s.1.seen_main else s.1.seen_rtx) (eq-eqb m s.0.ssrc is))

  rtx_list : (m : ℕ) → IsLine s.0 → s.0.rtx ≡ Some m → s.1.seen_rtx ≡ seen_of s.0 (lists_in s.1) m
  rtx_list m line is = sym (ap (λ b. if b then s.1.seen_main else s.1.seen_rtx) (ne_eqb m s.0.ssrc (rtx_other line is)))
    where
      rtx_other : IsLine s.0 → s.0.rtx ≡ Some m → m ≡ s.0.ssrc → ⊥
      rtx_other line is same = false≢true (sym line.apart ∙ ap (is_just s.0.ssrc) is ∙ eq-eqb m s.0.ssrc same)

  pub seen_under : (m : ℕ) → IsLine s.0 → concerns s.0 m ≡ true → MirrorsSeen (value_under m seen) (seen_of s.0 (lists_in s.1) m)
  seen_under m line of =
      elim (concerned s.0 m of) [
        | inl is ↦ subst (MirrorsSeen (value_under m seen)) (main_list m is) (subst (λ (j : ℕ). MirrorsSeen (value_under j seen) s.1.seen_main) (sym is) k.seen_main)
        | inr is ↦ subst (MirrorsSeen (value_under m seen)) (rtx_list m line is) (subst (λ o. rtx_seen seen o s.1.seen_rtx) is k.seen_rtx)
      ]

  module _ (m : ℕ) (line : IsLine s.0) (of : concerns s.0 m ≡ true) where
    greatest_here : greatest_seen m seen ≡ greatest_of (seen_of s.0 (lists_in s.1) m)
    greatest_here = seen_greatest (value_under m seen) (seen_of s.0 (lists_in s.1) m) (seen_under m line of)

    pub own_is : (low : ℕ) → own_number (greatest_seen m seen) x low ≡ own_at s.0 (lists_in s.1) m low
    own_is low =
        ap (λ o. widen16 o low) (base_same (greatest_seen m seen) x.repairs s.1.floor s.1.tried k.repairs)
        ∙ ap (λ g. widen16 (base_with (floor_with g s.1.floor s.1.tried) s.1.tried) low) greatest_here

    own_fresh : (n : ℕ) → is_fresh_repair (greatest_seen m seen) x.repairs n ≡ is_fresh_after (floor_of s.0 (lists_in s.1) m) s.1.tried n
    own_fresh n =
        fresh_same (greatest_seen m seen) x.repairs s.1.floor s.1.tried n k.repairs
        ∙ ap (λ g. is_fresh_after (floor_with g s.1.floor s.1.tried) s.1.tried n) greatest_here

    abbrev accept : Bool → Bool → Bool → ℕ → Option ℕ
    accept padded unseen fresh n = if padded then where_fresh unseen n else where_fresh fresh n

    pub accepted_is : (h : RtpHeader) → h.ssrc ≡ m → repair_accepted seen h x
        ≡ where_fresh (is_own_fresh s.0 (lists_in s.1) m h.has_padding (own_at s.0 (lists_in s.1) m h.sequence_number)) (own_at s.0 (lists_in s.1) m h.sequence_number)
    accepted_is h is =
        ap (λ (j : ℕ). accept h.has_padding (is_unseen j (own_number (greatest_seen j seen) x h.sequence_number) seen)
        (is_fresh_repair (greatest_seen j seen) x.repairs (own_number (greatest_seen j seen) x h.sequence_number)) (own_number (greatest_seen j seen) x h.sequence_number)) is
        ∙ ap (λ n. accept h.has_padding (is_unseen m n seen) (is_fresh_repair (greatest_seen m seen) x.repairs n) n) (own_is h.sequence_number)
        ∙ ap (λ b. accept h.has_padding (is_unseen m (own_at s.0 (lists_in s.1) m h.sequence_number) seen) b (own_at s.0 (lists_in s.1) m h.sequence_number)) (own_fresh (own_at s.0 (lists_in s.1) m h.sequence_number))
        ∙ ap (λ b. accept h.has_padding b (is_fresh_after (floor_of s.0 (lists_in s.1) m) s.1.tried (own_at s.0 (lists_in s.1) m h.sequence_number)) (own_at s.0 (lists_in s.1) m h.sequence_number))
        (unseen_same (own_at s.0 (lists_in s.1) m h.sequence_number) (value_under m seen) (seen_of s.0 (lists_in s.1) m) (seen_under m line of))
        ∙ one h.has_padding
      where
        one : (b : Bool) → accept b (is_fresh_rtx (seen_of s.0 (lists_in s.1) m) (own_at s.0 (lists_in s.1) m h.sequence_number)) (is_fresh_after (floor_of s.0 (lists_in s.1) m) s.1.tried (own_at s.0 (lists_in s.1) m h.sequence_number)) (own_at s.0 (lists_in s.1) m h.sequence_number)
            ≡ where_fresh (is_own_fresh s.0 (lists_in s.1) m b (own_at s.0 (lists_in s.1) m h.sequence_number)) (own_at s.0 (lists_in s.1) m h.sequence_number)
        one true = refl
        one false = refl

  -- another stream's datagram opened
  pub others_same : (m n : ℕ) → concerns s.0 m ≡ false → RxMirrors threshold (saw m n seen) x s
  others_same m n none = record {
    ssrc = k.ssrc;
    roc = k.roc;
    suppressed = k.suppressed;
    threshold_is = k.threshold_is;
    pause = k.pause;
    numbers = k.numbers;
    begun = k.begun;
    repairs = k.repairs;
    seen_main = saw_other s.0.ssrc m n seen s.1.seen_main (λ is. not_main s.0 m none (sym is)) k.seen_main;
    seen_rtx = saw_rtx_other s.0.rtx m n seen s.1.seen_rtx (or_parts (m == s.0.ssrc) (is_just m s.0.rtx) none).1 k.seen_rtx;
  }

  pause_after : (now : ℕ) → now ≤ 10 ^ 16 → threshold ≤ 10 ^ 16 → Some (min (now + x.state.threshold) (2 ^ 64 - 1)) ≡ Some (now + threshold)
  pause_after now early short = ap (λ (t : ℕ). Some (min (now + t) (2 ^ 64 - 1))) k.threshold_is ∙ ap Some (pause_is now threshold early short)

  -- a first sending opened
  pub first_opened : (arrival : Arrival) (n : ℕ) → arrival.now ≤ 10 ^ 16 → threshold ≤ 10 ^ 16 → IsLine s.0
      → RxMirrors threshold (saw s.0.ssrc n seen) (opened_as (greatest_seen s.0.ssrc seen) arrival n x) (s.0, rx_first (arrival.now + threshold) n s.1)
  first_opened arrival n early short line = record {
    ssrc = k.ssrc;
    roc = refl;
    suppressed = k.suppressed;
    threshold_is = k.threshold_is;
    pause = pause_after arrival.now early short;
    numbers = ap (λ h. Some (came h n)) heard_same;
    begun = with_number_some (taken (register s.1.seen_main s.1.numbers)) n;
    repairs = k.repairs;
    seen_main = saw_main s.0.ssrc n seen s.1.seen_main k.seen_main;
    seen_rtx = saw_rtx_other s.0.rtx s.0.ssrc n seen s.1.seen_rtx line.apart k.seen_rtx;
  }

  -- the own number of a repair
  abbrev tried_seen_main : ℕ → ℕ → List ℕ
  tried_seen_main m n = if m == s.0.ssrc then s.1.seen_main ++ n ∷ [] else s.1.seen_main

  abbrev tried_seen_rtx : ℕ → ℕ → List ℕ
  tried_seen_rtx m n = if m == s.0.ssrc then s.1.seen_rtx else s.1.seen_rtx ++ n ∷ []

  main_after : (m n : ℕ) → MirrorsSeen (value_under s.0.ssrc (saw m n seen)) (tried_seen_main m n)
  main_after m n =
      elim (cases_eq m s.0.ssrc) [
        | inl is ↦ subst (MirrorsSeen (value_under s.0.ssrc (saw m n seen))) (sym (ap (λ b. if b then s.1.seen_main ++ n ∷ [] else s.1.seen_main) (eq-eqb m s.0.ssrc is)))
            (subst (λ (j : ℕ). MirrorsSeen (value_under s.0.ssrc (saw j n seen)) (s.1.seen_main ++ n ∷ [])) (sym is) (saw_main s.0.ssrc n seen s.1.seen_main k.seen_main))
        | inr other ↦ subst (MirrorsSeen (value_under s.0.ssrc (saw m n seen))) (sym (ap (λ b. if b then s.1.seen_main ++ n ∷ [] else s.1.seen_main) (ne_eqb m s.0.ssrc other)))
            (saw_other s.0.ssrc m n seen s.1.seen_main (λ is. other (sym is)) k.seen_main)
      ]

  rtx_after : (m n : ℕ) → IsLine s.0 → (m ≡ s.0.ssrc) ⊎ (s.0.rtx ≡ Some m) → rtx_seen (saw m n seen) s.0.rtx (tried_seen_rtx m n)
  rtx_after m n line (inl is) =
      subst (rtx_seen (saw m n seen) s.0.rtx) (sym (ap (λ b. if b then s.1.seen_rtx else s.1.seen_rtx ++ n ∷ []) (eq-eqb m s.0.ssrc is)))
      (saw_rtx_other s.0.rtx m n seen s.1.seen_rtx (ap (λ (j : ℕ). is_just j s.0.rtx) is ∙ line.apart) k.seen_rtx)
  rtx_after m n line (inr is) =
      subst (rtx_seen (saw m n seen) s.0.rtx)
      (sym (ap (λ b. if b then s.1.seen_rtx else s.1.seen_rtx ++ n ∷ []) (ne_eqb m s.0.ssrc (λ same. false≢true (sym line.apart ∙ ap (is_just s.0.ssrc) is ∙ eq-eqb m s.0.ssrc same)))))
      (saw_rtx s.0.rtx m n seen s.1.seen_rtx is k.seen_rtx)

  pub repair_opened_as : (m now n : ℕ) → now ≤ 10 ^ 16 → threshold ≤ 10 ^ 16 → IsLine s.0 → concerns s.0 m ≡ true
      → RxMirrors threshold (saw m n seen) (repair_came (greatest_seen m seen) now n x) (s.0, rx_tried s.0 (now + threshold) m n s.1)
  repair_opened_as m now n early short line of = record {
    ssrc = k.ssrc;
    roc = k.roc;
    suppressed = k.suppressed;
    threshold_is = k.threshold_is;
    pause = pause_after now early short;
    numbers = k.numbers;
    begun = k.begun;
    repairs = subst (λ g. MirrorsPast (repair_opened (greatest_seen m seen) n x.repairs) (floor_with g s.1.floor s.1.tried) (s.1.tried ++ n ∷ [])) (greatest_here m line of)
        (past_opened (greatest_seen m seen) x.repairs s.1.floor s.1.tried n k.repairs);
    seen_main = main_after m n;
    seen_rtx = rtx_after m n line (concerned s.0 m of);
  }

  -- the number that it restores
  restored_numbers : (arrival : Arrival) (low : ℕ) → (with_packet (greatest_seen s.0.ssrc seen) arrival (restored_fresh (greatest_seen s.0.ssrc seen) x low) x).numbers
      ≡ (rx_restored (Some (restored_at (lists_in s.1) low)) s.1).numbers
  restored_numbers arrival low = ap (λ o. (with_packet (greatest_seen s.0.ssrc seen) arrival o x).numbers) (restored_where low) ∙ go (is_fresh (begun_taken (lists_in s.1)) q)
    where
      q : ℕ
      q = restored_at (lists_in s.1) low

      go : (b : Bool) → (with_packet (greatest_seen s.0.ssrc seen) arrival (where_fresh b q) x).numbers ≡ (if b then Some (came (register s.1.seen_main s.1.numbers) q) else s.1.numbers)
      go true = ap (λ h. Some (came h q)) heard_same
      go false = k.numbers

  restored_begun : (q : ℕ) → HasBegun (rx_restored (Some q) s.1).numbers
  restored_begun q = go (is_fresh (begun_taken (lists_in s.1)) q)
    where
      go : (b : Bool) → HasBegun (if b then Some (came (register s.1.seen_main s.1.numbers) q) else s.1.numbers)
      go true = with_number_some (taken (register s.1.seen_main s.1.numbers)) q
      go false = k.begun

  -- all but what it keeps for its reports stays
  pub same_state : (arrival : Arrival) (o : Option ℕ)
      → (with_packet (greatest_seen s.0.ssrc seen) arrival o x).state ≡ record x.state { reports = reports_restored arrival o x.state.reports }
  same_state arrival None = refl
  same_state arrival (Some n) = refl

  same_repairs : (arrival : Arrival) (o : Option ℕ) → (with_packet (greatest_seen s.0.ssrc seen) arrival o x).repairs ≡ x.repairs
  same_repairs arrival None = refl
  same_repairs arrival (Some n) = refl

  pub original_opened : (arrival : Arrival) (low : ℕ) → IsLine s.0
      → RxMirrors threshold (saw s.0.ssrc (restored_at (lists_in s.1) low) seen) (after_restored (greatest_seen s.0.ssrc seen) arrival low x)
      (s.0, rx_restored (Some (restored_at (lists_in s.1) low)) s.1)
  original_opened arrival low line =
      let same = same_state arrival (restored_fresh (greatest_seen s.0.ssrc seen) x low) in record {
        ssrc = ap (λ (t : RxState). t.ssrc) same ∙ k.ssrc;
        roc = ap (λ (t : RxState). t.roc) same ∙ k.roc;
        suppressed = ap (λ (t : RxState). t.suppressed) same ∙ k.suppressed;
        threshold_is = ap (λ (t : RxState). t.threshold) same ∙ k.threshold_is;
        pause = ap (λ (t : RxState). t.pause_at) same ∙ k.pause;
        numbers = restored_numbers arrival low;
        begun = restored_begun (restored_at (lists_in s.1) low);
        repairs = subst (λ p. MirrorsPast p s.1.floor s.1.tried) (sym (same_repairs arrival (restored_fresh (greatest_seen s.0.ssrc seen) x low))) k.repairs;
        seen_main = saw_main s.0.ssrc (restored_at (lists_in s.1) low) seen s.1.seen_main k.seen_main;
        seen_rtx = saw_rtx_other s.0.rtx s.0.ssrc (restored_at (lists_in s.1) low) seen s.1.seen_rtx line.apart k.seen_rtx;
      }
