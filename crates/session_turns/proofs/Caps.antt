-- When the cap of repairs is read in a drain.
use Rattle.std.proofs.Common.{◌≡◌, ◌⊎◌, inl, inr, ℕ, ◌-◌, ◌≤◌, Bool, true, false, List, [], ◌∷◌, ◌++◌, Option, Some, None, refl, sym, ap, ◌∙◌, subst, arith}
use Rattle.std.specs.Prelude.{nat_le, if◌then◌else◌}
use Rattle.std.specs.Option.{option_map}
use Rattle.std.proofs.lemmas.Bool.{ltb-true, lt-ltb, leb-true}
use Rattle.std.proofs.lemmas.List.{append-nil}
use Rattle.rtx_core.specs.Ratio.{bytes_in, is_old, recent, CapRecord, is_above, is_above_at, is_reading_due, after_reading, with_sent, with_resent}
use Rattle.run_model.specs.Events.{Outgoing}
use Rattle.run_model.specs.Capping.{Reading, is_met, reading_after}
use Rattle.run_model.specs.TxPlay.{TxRecord}
use Rattle.rtx_core.specs.Resends.{is_capped}
use Rattle.session_turns.specs.Mirrors.{IsRecent, MirrorsCap}
use Rattle.session_turns.proofs.Tests.{tested}

-- what counted no more at a moment counts no more at a later one
still_old : (m now t : ℕ) → m ≤ now → is_old m t ≡ true → is_old now t ≡ true
still_old m now t later e =
    let old = ltb-true 1000000000 (m - t) e in
    lt-ltb 1000000000 (now - t) (omega arith)

pub recent_more : (m now : ℕ) (xs ys : List (ℕ × ℕ)) → m ≤ now → recent now (recent m xs ++ ys) ≡ recent now (xs ++ ys)
recent_more m now [] ys later = refl
recent_more m now (x ∷ xs) ys later =
    elim (tested (is_old m x.0)) [
      | inl old ↦
          ap (λ (b : Bool). recent now ((if b then recent m xs else x ∷ xs) ++ ys)) old
          ∙ recent_more m now xs ys later
          ∙ sym (ap (λ (b : Bool). if b then recent now (xs ++ ys) else x ∷ (xs ++ ys)) (still_old m now x.0 later old))
      | inr new ↦ ap (λ (b : Bool). recent now ((if b then recent m xs else x ∷ xs) ++ ys)) new
    ]

pub recent_again : (m now : ℕ) (xs : List (ℕ × ℕ)) → m ≤ now → recent now (recent m xs) ≡ recent now xs
recent_again m now xs later = ap (recent now) (sym (append-nil (recent m xs))) ∙ recent_more m now xs [] later ∙ ap (recent now) (append-nil xs)

module _ (now : ℕ) where
  pub recent_now : (all kept : List (ℕ × ℕ)) → IsRecent now all kept → recent now kept ≡ recent now all
  recent_now all kept h = ap (recent now) h.kept_is ∙ recent_again h.moment now all h.past

  -- one more, at this moment
  pub recent_push : (all kept more : List (ℕ × ℕ)) → IsRecent now all kept → IsRecent now (all ++ more) (recent now (kept ++ more))
  recent_push all kept more h = record {
    moment = now;
    past = omega arith;
    kept_is = ap (λ (l : List (ℕ × ℕ)). recent now (l ++ more)) h.kept_is ∙ recent_more h.moment now all more h.past;
  }

  -- a reading stands at its moment
  pub reading_stands : (c : CapRecord) → is_reading_due now (after_reading now c) ≡ false
  reading_stands c =
      elim (tested (is_reading_due now c)) [
        | inl due ↦
            let none : nat_le 50000000 (now - now) ≡ false = elim (tested (nat_le 50000000 (now - now))) [ inl e ↦ let le = leb-true 50000000 (now - now) e in absurd (omega arith) | inr e ↦ e ] in
            ap (λ (b : Bool). is_reading_due now (if b then record c { read_at = now; met = is_above_at now c } else c)) due ∙ none
        | inr not ↦ ap (λ (b : Bool). is_reading_due now (if b then record c { read_at = now; met = is_above_at now c } else c)) not ∙ not
      ]

  pub reading_same : (c : CapRecord) → is_reading_due now c ≡ false → after_reading now c ≡ c
  reading_same c e = ap (λ (b : Bool). if b then record c { read_at = now; met = is_above_at now c } else c) e

  pub reading_sent : (c : CapRecord) → (after_reading now c).sent ≡ c.sent
  reading_sent c = elim (is_reading_due now c) as (λ b. (if b then record c { read_at = now; met = is_above_at now c } else c).sent ≡ c.sent) [ true ↦ refl | false ↦ refl ]

  pub reading_resent : (c : CapRecord) → (after_reading now c).resent ≡ c.resent
  reading_resent c = elim (is_reading_due now c) as (λ b. (if b then record c { read_at = now; met = is_above_at now c } else c).resent ≡ c.resent) [ true ↦ refl | false ↦ refl ]

  pub reading_hundredths : (c : CapRecord) → (after_reading now c).hundredths ≡ c.hundredths
  reading_hundredths c = elim (is_reading_due now c) as (λ b. (if b then record c { read_at = now; met = is_above_at now c } else c).hundredths ≡ c.hundredths) [ true ↦ refl | false ↦ refl ]

  -- a cap and what a plain stream has of it
  pub record MidCap (cap : Option ℕ) (sent resent : List (ℕ × ℕ)) (reading : Reading) (c : CapRecord) : Type 0 where
    pub is : cap ≡ Some c.hundredths
    pub sent_is : IsRecent now sent c.sent
    pub resent_is : IsRecent now resent c.resent
    pub read_at : c.read_at ≡ reading.moment
    pub met : c.met ≡ reading.met

  abbrev pub MirrorsMid : Option ℕ → List (ℕ × ℕ) → List (ℕ × ℕ) → Reading → Option CapRecord → Type 0
  MirrorsMid cap sent resent reading None = cap ≡ None
  MirrorsMid cap sent resent reading (Some c) = MidCap cap sent resent reading c

  pub mid_from : (L : Outgoing) (t : TxRecord) (o : Option CapRecord) → MirrorsCap now L t o → MirrorsMid L.cap t.sent t.resent t.reading o
  mid_from L t None h = h
  mid_from L t (Some c) h = record { is = h.cap; sent_is = h.sent; resent_is = h.resent; read_at = h.read_at; met = h.met }

  pub mid_to : (L : Outgoing) (t : TxRecord) (o : Option CapRecord) → MirrorsMid L.cap t.sent t.resent t.reading o → MirrorsCap now L t o
  mid_to L t None h = h
  mid_to L t (Some c) h = record { cap = h.is; sent = h.sent_is; resent = h.resent_is; read_at = h.read_at; met = h.met }

  module _ (cap : Option ℕ) (sent resent : List (ℕ × ℕ)) (reading : Reading) where
    module _ (c : CapRecord) (m : MidCap cap sent resent reading c) where
      abbrev plain : Reading
      plain = reading_after cap sent resent reading now

      same_due : is_reading_due now c ≡ nat_le 50000000 (now - reading.moment)
      same_due = ap (λ (n : ℕ). nat_le 50000000 (now - n)) m.read_at

      same_above : is_above_at now c ≡ is_met cap sent resent now
      same_above =
          ap (λ (l : List (ℕ × ℕ)). is_above c.hundredths (bytes_in l) (bytes_in (recent now c.resent))) (recent_now sent c.sent m.sent_is)
          ∙ ap (λ (l : List (ℕ × ℕ)). is_above c.hundredths (bytes_in (recent now sent)) (bytes_in l)) (recent_now resent c.resent m.resent_is)
          ∙ sym (ap (λ (o : Option ℕ). is_met o sent resent now) m.is)

      abbrev read_if : Bool → CapRecord
      read_if b = if b then record c { read_at = now; met = is_above_at now c } else c

      abbrev plain_if : Bool → Reading
      plain_if b = if b then record { moment = now; met = is_met cap sent resent now } else reading

      -- both are read, or none is
      pub read_mirrors : MidCap cap sent resent plain (after_reading now c)
      read_mirrors = record {
        is = m.is ∙ ap (λ (n : ℕ). Some n) (sym (reading_hundredths c));
        sent_is = subst (λ (l : List (ℕ × ℕ)). IsRecent now sent l) (sym (reading_sent c)) m.sent_is;
        resent_is = subst (λ (l : List (ℕ × ℕ)). IsRecent now resent l) (sym (reading_resent c)) m.resent_is;
        read_at =
            elim (tested (is_reading_due now c)) [
              | inl due ↦ ap (λ (b : Bool). (read_if b).read_at) due ∙ sym (ap (λ (b : Bool). (plain_if b).moment) (sym same_due ∙ due))
              | inr not ↦ ap (λ (b : Bool). (read_if b).read_at) not ∙ m.read_at ∙ sym (ap (λ (b : Bool). (plain_if b).moment) (sym same_due ∙ not))
            ];
        met =
            elim (tested (is_reading_due now c)) [
              | inl due ↦ ap (λ (b : Bool). (read_if b).met) due ∙ same_above ∙ sym (ap (λ (b : Bool). (plain_if b).met) (sym same_due ∙ due))
              | inr not ↦ ap (λ (b : Bool). (read_if b).met) not ∙ m.met ∙ sym (ap (λ (b : Bool). (plain_if b).met) (sym same_due ∙ not))
            ];
      }

    -- the cap is read as the drain begins
    pub begin_mirrors : (o : Option CapRecord) → MirrorsMid cap sent resent reading o → MirrorsMid cap sent resent (reading_after cap sent resent reading now) (option_map (after_reading now) o)
    begin_mirrors None h = h
    begin_mirrors (Some c) h = read_mirrors c h

    -- a first sending is counted
    pub sent_mirrors : (bytes : ℕ) (o : Option CapRecord) → MirrorsMid cap sent resent reading o → MirrorsMid cap (sent ++ (now, bytes) ∷ []) resent reading (option_map (with_sent now bytes) o)
    sent_mirrors bytes None h = h
    sent_mirrors bytes (Some c) h = record {
      is = h.is;
      sent_is = recent_push sent c.sent ((now, bytes) ∷ []) h.sent_is;
      resent_is = h.resent_is;
      read_at = h.read_at;
      met = h.met;
    }

    -- and a repair
    pub resent_mirrors : (bytes : ℕ) (o : Option CapRecord) → MirrorsMid cap sent resent reading o → MirrorsMid cap sent (resent ++ (now, bytes) ∷ []) reading (option_map (with_resent now bytes) o)
    resent_mirrors bytes None h = h
    resent_mirrors bytes (Some c) h = record {
      is = h.is;
      sent_is = h.sent_is;
      resent_is = recent_push resent c.resent ((now, bytes) ∷ []) h.resent_is;
      read_at = h.read_at;
      met = h.met;
    }

  -- it was read at this moment, or was not to be read: so it is not read again
  pub read_once : (bytes : ℕ) (o : Option CapRecord)
      → option_map (after_reading now) (option_map (with_resent now bytes) (option_map (after_reading now) o)) ≡ option_map (with_resent now bytes) (option_map (after_reading now) o)
  read_once bytes None = refl
  read_once bytes (Some c) = ap (λ (d : CapRecord). Some d) (reading_same (with_resent now bytes (after_reading now c)) (reading_stands c))

  -- where the cap is met, it is so by the plain reading too
  pub met_mirrors : (cap : Option ℕ) (sent resent : List (ℕ × ℕ)) (reading : Reading) (o : Option CapRecord) → MirrorsMid cap sent resent reading (option_map (after_reading now) o)
      → is_capped now o ≡ true → reading.met ≡ true
  met_mirrors cap sent resent reading None h capped = absurd cc
  met_mirrors cap sent resent reading (Some c) h capped = sym h.met ∙ capped

  -- and where it is not met, or there is none
  pub uncapped_mirrors : (cap : Option ℕ) (sent resent : List (ℕ × ℕ)) (reading : Reading) (o : Option CapRecord) → MirrorsMid cap sent resent reading (option_map (after_reading now) o)
      → is_capped now o ≡ false → (cap ≡ None) ⊎ (reading.met ≡ false)
  uncapped_mirrors cap sent resent reading None h not = inl h
  uncapped_mirrors cap sent resent reading (Some c) h not = inr (sym h.met ∙ not)
