-- What is asked for, by what streams send again and by its record.
use Rattle.std.proofs.Common.{◌≡◌, ℕ, zero, suc, Bool, true, false, List, [], ◌∷◌, Option, Some, None, slice_get, nat_eq, position, option_and_then, refl, sym, ap, ◌∙◌}
use Rattle.std.specs.Prelude.{◌&&◌, ◌||◌, is_some, if◌then◌else◌}
use Rattle.std.specs.Map.{keys_of, values_of}
use Rattle.std.specs.Option.{option_map}
use Rattle.resend_core.specs.ResendStore.{Past}
use Rattle.rtx_core.specs.Resends.{ResendView, ResendState}
use Rattle.stream_core.specs.Queue.{next_of}
use Rattle.stream_core.specs.Repairing.{SentPacket, RepairsView, RepairsRecord, RepairsStandFor, has_asked, state_in}
use Rattle.stream_core.specs.StreamsRecord.{is_asked, is_ready}
use Rattle.stream_core.specs.Tables.{place_of, value_under, Along}
use Rattle.stream_core.specs.TxRecord.{TxRecord}
use Rattle.session_core.specs.SessionRecord.{MediaRecord}
use Rattle.session_core.specs.Sending.{has_mid, is_due, first_due}

-- a value that a test is told of
pub tested_at : {X : Type 0} (p : X → Bool) (o : Option X) (b : Bool) → Some b ≡ option_map p o → (x : X) × (o ≡ Some x) × (p x ≡ b)
tested_at p None b h = absurd cc
tested_at p (Some x) b h = let e : b ≡ p x = cc in (x, refl, sym e)

module _ {S : Type 0} (stands_for : S → Past SentPacket → Type 0) where
  keys_same : (vs : List (ℕ × RepairsView S)) (rs : List (ℕ × RepairsRecord)) → Along (RepairsStandFor stands_for) vs rs → keys_of vs ≡ keys_of rs
  keys_same [] [] h = refl
  keys_same [] (r ∷ rs) h = absurd h
  keys_same (v ∷ vs) [] h = absurd h
  keys_same (v ∷ vs) (r ∷ rs) h = λ i. h.0.0 i ∷ keys_same vs rs h.1 i

  asked_same : (vs : List (ℕ × RepairsView S)) (rs : List (ℕ × RepairsRecord)) (i : ℕ) → Along (RepairsStandFor stands_for) vs rs
      → has_asked (state_in (slice_get (values_of vs) i)) ≡ has_asked (state_in (slice_get (values_of rs) i))
  asked_same [] [] i h = refl
  asked_same [] (r ∷ rs) i h = absurd h
  asked_same (v ∷ vs) [] i h = absurd h
  asked_same (v ∷ vs) (r ∷ rs) zero h = ap (λ (s : ResendState). has_asked (Some s)) h.0.1.state
  asked_same (v ∷ vs) (r ∷ rs) (suc i) h = asked_same vs rs i h.1

  module _ (vs : List (ℕ × RepairsView S)) (rs : List (ℕ × RepairsRecord)) (all : Along (RepairsStandFor stands_for) vs rs) where
    at_place : (p : Option ℕ) → has_asked (state_in (option_and_then (slice_get (values_of vs)) p)) ≡ has_asked (state_in (option_and_then (slice_get (values_of rs)) p))
    at_place None = refl
    at_place (Some i) = asked_same vs rs i all

    of_stream : (x : TxRecord) (o : Option ℕ) → has_asked (state_in (option_and_then (λ (n : ℕ). value_under x.ssrc vs) o)) ≡ has_asked (state_in (option_and_then (λ (n : ℕ). value_under x.ssrc rs) o))
    of_stream x None = refl
    of_stream x (Some n) =
        at_place (place_of x.ssrc vs)
        ∙ ap (λ ks. has_asked (state_in (option_and_then (slice_get (values_of rs)) (position (nat_eq x.ssrc) ks)))) (keys_same vs rs all)

    same_due : (medias : List MediaRecord) (released : Bool) (x : TxRecord) → is_due medias released vs x ≡ is_due medias released rs x
    same_due medias released x = ap (λ b. has_mid x.mid medias && (is_some (next_of x.queue) || (released && b))) (of_stream x x.rtx)

    pub same_first : (medias : List MediaRecord) (released : Bool) (es : List (ℕ × TxRecord)) → first_due medias released vs es ≡ first_due medias released rs es
    same_first medias released [] = refl
    same_first medias released (e ∷ es) = λ i. if same_due medias released e.1 i then Some 0 else option_map suc (same_first medias released es i)

-- one that is due has something to send
due_ready : (mid next released asked : Bool) → (mid && (next || (released && asked))) ≡ true → (asked || next) ≡ true
due_ready false next released asked h = absurd cc
due_ready true true released true h = refl
due_ready true true released false h = refl
due_ready true false true true h = refl
due_ready true false true false h = absurd cc
due_ready true false false asked h = absurd cc

pub ready_is : {C : Type 0} (medias : List MediaRecord) (released : Bool) (qs : List (ℕ × ResendView C)) (x : TxRecord) → is_due medias released qs x ≡ true → is_ready qs x ≡ true
ready_is medias released qs x h = due_ready (has_mid x.mid medias) (is_some (next_of x.queue)) released (is_asked qs x) h

none_here : (b : Bool) (o : Option ℕ) → (if b then Some 0 else option_map suc o) ≡ None → (b ≡ false) × (o ≡ None)
none_here true o h = absurd cc
none_here false None h = (refl, refl)
none_here false (Some i) h = absurd cc

-- streams that were not due are not, where fewer are asked for
module _ {C : Type 0} (medias : List MediaRecord) (released : Bool) (qs new : List (ℕ × ResendView C)) (fewer : (x : TxRecord) → is_asked new x ≡ true → is_asked qs x ≡ true) where
  not_asked : (x : TxRecord) → is_asked qs x ≡ false → is_asked new x ≡ false
  not_asked x h = by (is_asked new x) refl
    where
      by : (b : Bool) → is_asked new x ≡ b → b ≡ false
      by true e = let yes : is_asked qs x ≡ true = fewer x e in absurd cc
      by false e = refl

  not_due : (x : TxRecord) → is_due medias released qs x ≡ false → is_due medias released new x ≡ false
  not_due x h = parts (has_mid x.mid medias) (is_some (next_of x.queue)) released (is_asked qs x) (is_asked new x) (not_asked x) h
    where
      parts : (mid next go old now : Bool) → (old ≡ false → now ≡ false) → (mid && (next || (go && old))) ≡ false → (mid && (next || (go && now))) ≡ false
      parts false next go old now f h = refl
      parts true true go old now f h = absurd cc
      parts true false false old now f h = refl
      parts true false true old now f h = f h

  pub still_none : (es : List (ℕ × TxRecord)) → first_due medias released qs es ≡ None → first_due medias released new es ≡ None
  still_none [] h = refl
  still_none (e ∷ es) h =
      let k = none_here (is_due medias released qs e.1) (first_due medias released qs es) h in
      λ i. if not_due e.1 k.0 i then Some 0 else option_map suc (still_none es k.1 i)

-- where what is asked for may not leave, no more streams are due
module _ {C : Type 0} (medias : List MediaRecord) (released : Bool) (qs : List (ℕ × ResendView C)) where
  held_back : (mid next go old : Bool) → (mid && (next || (go && old))) ≡ false → (mid && (next || (false && old))) ≡ false
  held_back false next go old h = refl
  held_back true true go old h = absurd cc
  held_back true false go old h = refl

  pub none_released : (es : List (ℕ × TxRecord)) → first_due medias released qs es ≡ None → first_due medias false qs es ≡ None
  none_released [] h = refl
  none_released (e ∷ es) h =
      let k = none_here (is_due medias released qs e.1) (first_due medias released qs es) h in
      λ i. if held_back (has_mid e.1.mid medias) (is_some (next_of e.1.queue)) released (is_asked qs e.1) k.0 i then Some 0 else option_map suc (none_released es k.1 i)
