-- The reports of outgoing streams, as one stream more is looked at.
use Rattle.std.proofs.Common.{◌≡◌, ℕ, zero, suc, ◌+◌, Bool, true, false, List, [], ◌∷◌, ◌++◌, Option, Some, drop, slice_get, sym, ap, ◌∙◌, add-one}
use Rattle.std.proofs.lemmas.List.{append_assoc}
use Rattle.std.specs.Prelude.{if◌then◌else◌}
use Rattle.std.specs.Map.{values_of}
use Rattle.report_core.specs.declared.clock.ReportIntervals.{ReportIntervals}
use Rattle.media_units.specs.Soonest.{earlier}
use Rattle.stream_core.specs.Reporting.{tx_report_at, is_tx_report_due, due_tx_mids, tx_report_before}
use Rattle.stream_core.specs.TxRecord.{TxRecord}

module _ (intervals : ReportIntervals) where
  -- the first moment
  pub sender_more : (first : Option ℕ) (es : List (ℕ × TxRecord)) (i : ℕ) (x : TxRecord) → slice_get (values_of es) i ≡ Some x
      → tx_report_before intervals (earlier first (Some (tx_report_at intervals x))) (drop (i + 1) es) ≡ tx_report_before intervals first (drop i es)
  sender_more first es i x at = ap (λ n. tx_report_before intervals (earlier first (Some (tx_report_at intervals x))) (drop n es)) (add-one i) ∙ by es i at
    where
      by : (es : List (ℕ × TxRecord)) (i : ℕ) → slice_get (values_of es) i ≡ Some x
          → tx_report_before intervals (earlier first (Some (tx_report_at intervals x))) (drop (suc i) es) ≡ tx_report_before intervals first (drop i es)
      by [] i at = absurd cc
      by (e ∷ es) zero at = let same : x ≡ e.1 = cc in ap (λ (y : TxRecord). tx_report_before intervals (earlier first (Some (tx_report_at intervals y))) es) same
      by (e ∷ es) (suc i) at = by es i at

  module _ (now : ℕ) where
    -- what one stream says of its media section, in front of what the others say
    abbrev with_due : Bool → List ℕ → List (List ℕ) → List (List ℕ)
    with_due b mid rest = if b then mid ∷ rest else rest

    due_suc : (es : List (ℕ × TxRecord)) (i : ℕ) (x : TxRecord) → slice_get (values_of es) i ≡ Some x
        → due_tx_mids intervals now (drop i es) ≡ with_due (is_tx_report_due intervals now x) x.mid (due_tx_mids intervals now (drop (suc i) es))
    due_suc [] i x at = absurd cc
    due_suc (e ∷ es) zero x at =
        let same : e.1 ≡ x = cc in
        ap (λ (y : TxRecord). with_due (is_tx_report_due intervals now y) y.mid (due_tx_mids intervals now es)) same
    due_suc (e ∷ es) (suc i) x at = due_suc es i x at

    due_at : (es : List (ℕ × TxRecord)) (i : ℕ) (x : TxRecord) (b : Bool) → slice_get (values_of es) i ≡ Some x → is_tx_report_due intervals now x ≡ b
        → due_tx_mids intervals now (drop i es) ≡ with_due b x.mid (due_tx_mids intervals now (drop (i + 1) es))
    due_at es i x b at is =
        due_suc es i x at
        ∙ ap (λ c. with_due c x.mid (due_tx_mids intervals now (drop (suc i) es))) is
        ∙ ap (λ n. with_due b x.mid (due_tx_mids intervals now (drop n es))) (sym (add-one i))

    module _ (es : List (ℕ × TxRecord)) (i : ℕ) (x : TxRecord) (front : List (List ℕ)) (at : slice_get (values_of es) i ≡ Some x)
        (so_far : front ++ due_tx_mids intervals now (drop i es) ≡ due_tx_mids intervals now es) where
      -- the report of this stream is not due
      pub due_skipped : is_tx_report_due intervals now x ≡ false → front ++ due_tx_mids intervals now (drop (i + 1) es) ≡ due_tx_mids intervals now es
      due_skipped is = ap (λ l. front ++ l) (sym (due_at es i x false at is)) ∙ so_far

      -- it is due
      pub due_taken : is_tx_report_due intervals now x ≡ true → (front ++ x.mid ∷ []) ++ due_tx_mids intervals now (drop (i + 1) es) ≡ due_tx_mids intervals now es
      due_taken is =
          append_assoc front (x.mid ∷ []) (due_tx_mids intervals now (drop (i + 1) es))
          ∙ ap (λ l. front ++ l) (sym (due_at es i x true at is))
          ∙ so_far

      -- so the list is not empty
      pub due_some : is_tx_report_due intervals now x ≡ true → due_tx_mids intervals now es ≡ [] → ⊥
      due_some is none = not_empty front x.mid (due_tx_mids intervals now (drop (i + 1) es)) (sym (append_assoc front (x.mid ∷ []) (due_tx_mids intervals now (drop (i + 1) es))) ∙ due_taken is ∙ none)
        where
          not_empty : (a : List (List ℕ)) (m : List ℕ) (b : List (List ℕ)) → a ++ m ∷ b ≡ [] → ⊥
          not_empty [] m b e = absurd cc
          not_empty (y ∷ a) m b e = absurd cc
