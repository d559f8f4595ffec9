-- The round trip that RTCP tells.
use Rattle.std.proofs.Common.{◌≡◌, ℕ, Bool, true, false, List, [], ◌∷◌, Option, Some, None, refl, sym, ap, ◌∙◌, subst}
use Rattle.std.specs.Prelude.{if◌then◌else◌}
use Rattle.std.specs.List.{fold, AllZip}
use Rattle.std.specs.Option.{option_or}
use Rattle.rtcp_items.specs.declared.extended.DlrrItem.{DlrrItem as Delay}
use Rattle.rtcp_wire.specs.declared.rtcp_fb.RtcpFb.{RtcpFb}
use Rattle.rtcp_wire.specs.declared.rtcp_fb.RtcpFb.TheVariants.{SenderInfo, ReceptionReport, SourceDescription, Goodbye, Rrtr, DlrrItem, Nack, Pli, Fir, Twcc, Remb, AppSpecificFeedback}
use Rattle.stream_core.specs.Pauses.{on_record, told as stream_told, with_trip}
use Rattle.stream_core.specs.RxRecord.{RxRecord as StreamRx}
use Rattle.stream_core.specs.Tables.{each}
use Rattle.stream_core.specs.TxRecord.{TxRecord}
use Rattle.session_core.specs.Hearing.{is_own, delay_in, last_delay, trip_of, measured}
use Rattle.media_model.specs.declared.entry.Side.{Side}
use Rattle.run_model.specs.Events.{Incoming}
use Rattle.run_model.specs.RxPlay.{RxRecord}
use Rattle.run_model.specs.Asking.{trip_after}
use Rattle.run_model.specs.Whole.{Config, setup_of}
use Rattle.session_turns.specs.Mirrors.{RxStands}

module _ (C : Config) (side : Side) (local : ℕ) (tx : List (ℕ × TxRecord)) (now : ℕ) (owns : C.owns side ≡ is_own local tx) where
  -- the round trip after this delay was told last
  abbrev pub told_trip : Option ℕ → Option Delay → Option ℕ
  told_trip trip None = trip
  told_trip trip (Some d) = C.trip now d

  own_or_other : (trip : Option ℕ) (before : Option Delay) (d : Delay) (b : Bool)
      → (if b then C.trip now d else told_trip trip before) ≡ told_trip trip (option_or (if b then Some d else None) before)
  own_or_other trip before d true = refl
  own_or_other trip before d false = refl

  trip_by : (trip : Option ℕ) (before : Option Delay) (f : RtcpFb)
      → trip_after (setup_of C side) now (told_trip trip before) f ≡ told_trip trip (option_or (delay_in local tx f) before)
  trip_by trip before (DlrrItem d) =
      ap {A = ℕ → Bool} {B = Option ℕ} (λ g. if g d.ssrc then C.trip now d else told_trip trip before) owns ∙ own_or_other trip before d (is_own local tx d.ssrc)
  trip_by trip before (SenderInfo x) = refl
  trip_by trip before (ReceptionReport x) = refl
  trip_by trip before (SourceDescription x) = refl
  trip_by trip before (Goodbye x) = refl
  trip_by trip before (Rrtr x y) = refl
  trip_by trip before (Nack x y) = refl
  trip_by trip before (Pli x) = refl
  trip_by trip before (Fir x) = refl
  trip_by trip before (Twcc x) = refl
  trip_by trip before (Remb x y) = refl
  trip_by trip before (AppSpecificFeedback x) = refl

  trips : (trip : Option ℕ) (fs : List RtcpFb) (before : Option Delay)
      → fold (trip_after (setup_of C side) now) (told_trip trip before) fs ≡ told_trip trip (last_delay local tx fs before)
  trips trip [] before = refl
  trips trip (f ∷ fs) before =
      ap (λ (o : Option ℕ). fold (trip_after (setup_of C side) now) o fs) (trip_by trip before f) ∙ trips trip fs (option_or (delay_in local tx f) before)

  pub trip_told : (trip : Option ℕ) (fs : List RtcpFb) → told_trip trip (last_delay local tx fs None) ≡ fold (trip_after (setup_of C side) now) trip fs
  trip_told trip fs = sym (trips trip fs None)

-- incoming streams that change all alike
zip_each : {X Y : Type 0} (R S : ℕ × X → Y → Type 0) (f : X → X) → ((e : ℕ × X) (y : Y) → R e y → S (e.0, f e.1) y) → (es : List (ℕ × X)) (ys : List Y) → AllZip R es ys → AllZip S (each f es) ys
zip_each R S f says [] [] h = h
zip_each R S f says [] (y ∷ ys) h = absurd h
zip_each R S f says (e ∷ es) [] h = absurd h
zip_each R S f says (e ∷ es) (y ∷ ys) h = (says e y h.0, zip_each R S f says es ys h.1)

module _ (threshold : ℕ) (seen : List (ℕ × List ℕ)) where
  told_stands : (trip : Option ℕ) (e : ℕ × StreamRx) (s : Incoming × RxRecord) → RxStands threshold trip seen e s → RxStands threshold trip seen (e.0, on_record stream_told e.1) s
  told_stands trip e s h =
      let m = h.mirrors in
      record {
        key = h.key;
        trip_is = h.trip_is;
        mirrors = record {
          ssrc = m.ssrc;
          roc = m.roc;
          suppressed = m.suppressed;
          threshold_is = m.threshold_is;
          pause = m.pause;
          numbers = m.numbers;
          begun = m.begun;
          repairs = m.repairs;
          seen_main = m.seen_main;
          seen_rtx = m.seen_rtx;
        };
      }

  with_trip_stands : (trip new : Option ℕ) (e : ℕ × StreamRx) (s : Incoming × RxRecord) → RxStands threshold trip seen e s → RxStands threshold new seen (e.0, on_record (with_trip new) e.1) s
  with_trip_stands trip new e s h =
      let m = h.mirrors in
      record {
        key = h.key;
        trip_is = refl;
        mirrors = record {
          ssrc = m.ssrc;
          roc = m.roc;
          suppressed = m.suppressed;
          threshold_is = m.threshold_is;
          pause = m.pause;
          numbers = m.numbers;
          begun = m.begun;
          repairs = m.repairs;
          seen_main = m.seen_main;
          seen_rtx = m.seen_rtx;
        };
      }

  pub all_told : (trip : Option ℕ) (rx : List (ℕ × StreamRx)) (table : List (Incoming × RxRecord)) → AllZip (RxStands threshold trip seen) rx table
      → AllZip (RxStands threshold trip seen) (each (on_record stream_told) rx) table
  all_told trip rx table h = zip_each (RxStands threshold trip seen) (RxStands threshold trip seen) (on_record stream_told) (told_stands trip) rx table h

  pub all_measured : (trip : Option ℕ) (ntp : ℕ) (by : Option ℕ → Option Delay → Option ℕ) → ((o : Option ℕ) → by o None ≡ o) → ((o : Option ℕ) (d : Delay) → by o (Some d) ≡ trip_of ntp d)
      → (d : Option Delay) (rx : List (ℕ × StreamRx)) (table : List (Incoming × RxRecord)) → AllZip (RxStands threshold trip seen) rx table
      → AllZip (RxStands threshold (by trip d) seen) (measured ntp d rx) table
  all_measured trip ntp by none some None rx table h = subst (λ (x : Option ℕ). AllZip (RxStands threshold x seen) rx table) (sym (none trip)) h
  all_measured trip ntp by none some (Some d) rx table h =
      subst (λ (x : Option ℕ). AllZip (RxStands threshold x seen) (measured ntp (Some d) rx) table) (sym (some trip d))
      (zip_each (RxStands threshold trip seen) (RxStands threshold (trip_of ntp d) seen) (on_record (with_trip (trip_of ntp d))) (with_trip_stands trip (trip_of ntp d)) rx table h)
