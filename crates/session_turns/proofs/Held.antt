-- What a store of sent packets holds, and what that of their writes holds.
use Rattle.std.proofs.Common.{◌≡◌, inl, inr, ℕ, ◌+◌, ◌<◌, ◌≤◌, Bool, true, false, List, [], ◌∷◌, map, Option, Some, None, refl, sym, ap, ◌∙◌, subst, arith}
use Rattle.std.specs.Prelude.{◌&&◌, ◌==◌, if◌then◌else◌, max, min}
use Rattle.std.specs.List.{flat_map, AllByRecursion}
use Rattle.std.specs.Option.{option_map}
use Rattle.std.proofs.lemmas.Option.{same_Some}
use Rattle.resend_core.specs.ResendStore.{Event as Stored, pushed, evicted, Past, latter, last_under, stored_under, latest_eviction, greatest_stored, next_position, size_of, RisesFrom, IsRising, MustStore, MayGo, HeldAs}
use Rattle.stream_core.specs.declared.payload_types.TypeRow.{TypeRow}
use Rattle.stream_core.specs.Repairing.{SentPacket}
use Rattle.media_model.specs.declared.entry.Write.{Write}
use Rattle.run_model.specs.Events.{Outgoing}
use Rattle.run_model.specs.TxPlay.{past_of}
use Rattle.session_turns.specs.Mirrors.{sent_packet, sent_event, write_in}

latter_map : {A B : Type 0} (f : A → B) (o p : Option A) → latter (option_map f o) (option_map f p) ≡ option_map f (latter o p)
latter_map f o None = refl
latter_map f o (Some x) = refl

some_map : {A B : Type 0} (f : A → B) (o : Option A) (y : B) → option_map f o ≡ Some y → (x : A) × (o ≡ Some x) × (f x ≡ y)
some_map f None y e = absurd cc
some_map f (Some x) y e = (x, refl, same_Some (f x) y e)

-- a store that was told of the packets of these writes, with the limits of a stream
pub record Same (rows : List (ℕ × TypeRow)) (L : Outgoing) (store : List (Stored Write)) (past : Past SentPacket) : Type 0 where
  pub initial : past.initial ≡ min L.packets 10
  pub age : past.age ≡ L.age
  pub greatest : past.greatest ≡ L.packets
  pub events : past.events ≡ map (sent_event rows) store

module _ (rows : List (ℕ × TypeRow)) where
  abbrev pub sent_of : ℕ × Write → ℕ × SentPacket
  sent_of x = (x.0, sent_packet rows x.0 x.1)

  stored_map : (n : ℕ) (e : Stored Write) → stored_under n (sent_event rows e) ≡ option_map sent_of (stored_under n e)
  stored_map n (pushed q t w b) =
      elim (b && (q == n)) as (λ c. (if c then Some (t, sent_packet rows t w) else None) ≡ option_map sent_of (if c then Some (t, w) else None)) [
        | true ↦ refl
        | false ↦ refl
      ]
  stored_map n (evicted t) = refl

  pub last_map : (n : ℕ) (es : List (Stored Write)) → last_under n (map (sent_event rows) es) ≡ option_map sent_of (last_under n es)
  last_map n [] = refl
  last_map n (e ∷ es) =
      ap (λ (o : Option (ℕ × SentPacket)). latter o (last_under n (map (sent_event rows) es))) (stored_map n e)
      ∙ ap (latter (option_map sent_of (stored_under n e))) (last_map n es)
      ∙ latter_map sent_of (stored_under n e) (last_under n es)

  pub latest_map : (es : List (Stored Write)) → latest_eviction (map (sent_event rows) es) ≡ latest_eviction es
  latest_map [] = refl
  latest_map (pushed q t w b ∷ es) = ap (λ (n : ℕ). max 0 n) (latest_map es)
  latest_map (evicted t ∷ es) = ap (λ (n : ℕ). max t n) (latest_map es)

  pub greatest_map : (es : List (Stored Write)) → greatest_stored (map (sent_event rows) es) ≡ greatest_stored es
  greatest_map [] = refl
  greatest_map (pushed q t w b ∷ es) = ap (λ (n : ℕ). max (if b then q else 0) n) (greatest_map es)
  greatest_map (evicted t ∷ es) = ap (λ (n : ℕ). max 0 n) (greatest_map es)

  next_map : (es : List (Stored Write)) → next_position (map (sent_event rows) es) ≡ next_position es
  next_map [] = refl
  next_map (pushed q t w b ∷ es) = ap (λ (n : ℕ). max (q + 1) n) (next_map es)
  next_map (evicted t ∷ es) = ap (λ (n : ℕ). max 0 n) (next_map es)

  rises_map : (p t : ℕ) (es : List (Stored Write)) → RisesFrom p t es → RisesFrom p t (map (sent_event rows) es)
  rises_map p t [] h = tt
  rises_map p t (pushed q u w b ∷ es) h = (h.0, h.1, rises_map p t es h.2)
  rises_map p t (evicted u ∷ es) h = rises_map p t es h

  pub rising_map : (es : List (Stored Write)) → IsRising es → IsRising (map (sent_event rows) es)
  rising_map [] h = tt
  rising_map (pushed q u w b ∷ es) h = (rises_map q u es h.0, rising_map es h.1)
  rising_map (evicted u ∷ es) h = rising_map es h

  -- what is told of the writes of a store holds of one that is held
  here_in : (P : Write → Type 0) (c : Bool) (t : ℕ) (w : Write) (x : ℕ × Write) → P w → (if c then Some (t, w) else None) ≡ Some x → P x.1
  here_in P true t w x h is = subst (λ (y : ℕ × Write). P y.1) (same_Some (t, w) x is) h
  here_in P false t w x h is = absurd cc

  pick : (P : Type 0) (first o : Option (ℕ × Write)) (x : ℕ × Write) → latter first o ≡ Some x → (first ≡ Some x → P) → (o ≡ Some x → P) → P
  pick P first None x e f g = f e
  pick P first (Some y) x e f g = g e

  pub last_in : (P : Write → Type 0) (n : ℕ) (es : List (Stored Write)) (x : ℕ × Write) → last_under n es ≡ Some x → AllByRecursion P (flat_map write_in es) → P x.1
  last_in P n [] x e h = absurd cc
  last_in P n (pushed q t w b ∷ es) x e h =
      pick (P x.1) (stored_under n (pushed q t w b)) (last_under n es) x e (λ is. here_in P (b && (q == n)) t w x h.0 is) (λ is. last_in P n es x is h.1)
  last_in P n (evicted t ∷ es) x e h = pick (P x.1) None (last_under n es) x e (λ is. absurd cc) (λ is. last_in P n es x is h)

  -- a packet that is held is that of a write that is held
  pub record Holds (L : Outgoing) (store : List (Stored Write)) (n : ℕ) (p : SentPacket) : Type 0 where
    pub moment : ℕ
    pub write : Write
    pub is : p ≡ sent_packet rows moment write
    pub held : HeldAs (past_of L store) n (Some write)
    pub under : last_under n store ≡ Some (moment, write)

  module _ (L : Outgoing) (store : List (Stored Write)) (past : Past SentPacket) (s : Same rows L store past) where
    same_latest : latest_eviction past.events ≡ latest_eviction store
    same_latest = ap latest_eviction s.events ∙ latest_map store

    same_greatest : greatest_stored past.events ≡ greatest_stored store
    same_greatest = ap greatest_stored s.events ∙ greatest_map store

    same_next : next_position past.events ≡ next_position store
    same_next = ap next_position s.events ∙ next_map store

    same_size : size_of past ≡ size_of (past_of L store)
    same_size = ap (λ (n : ℕ). max n past.greatest) s.initial ∙ ap (λ (n : ℕ). max (min L.packets 10) n) s.greatest

    same_last : (n : ℕ) → last_under n past.events ≡ option_map sent_of (last_under n store)
    same_last n = ap (last_under n) s.events ∙ last_map n store

    pub may_go : (n t : ℕ) → MayGo past n t → MayGo (past_of L store) n t
    may_go n t (inl old) =
        let a = s.age in
        let b = same_latest in
        inl (omega arith)
    may_go n t (inr low) =
        inr (subst (λ (k : ℕ). n + size_of (past_of L store) ≤ k) same_greatest (subst (λ (k : ℕ). n + k ≤ greatest_stored past.events) same_size low))

    pub gone : (n : ℕ) → HeldAs past n None → HeldAs (past_of L store) n None
    gone n h t w e = may_go n t (h t (sent_packet rows t w) (same_last n ∙ ap (option_map sent_of) e))

    pub holds : (n : ℕ) (p : SentPacket) → HeldAs past n (Some p) → Holds L store n p
    holds n p h =
        let x = some_map sent_of (last_under n store) (h.0, p) (sym (same_last n) ∙ h.1) in
        let moment : x.0.0 ≡ h.0 = ap (λ (y : ℕ × SentPacket). y.0) x.2 in
        let latest = same_latest in
        let age = s.age in
        record {
          moment = x.0.0;
          write = x.0.1;
          is = sym (ap (λ (y : ℕ × SentPacket). y.1) x.2);
          held = (x.0.0, x.1, λ rising. let young = h.2 (subst IsRising (sym s.events) (rising_map store rising)) in omega arith);
          under = x.1;
        }

    pub must_store : (n t : ℕ) → MustStore (past_of L store) n t → MustStore past n t
    must_store n t m =
        let a = m.roomy in
        let b = m.aging in
        let c = m.timely in
        let d = m.above in
        let latest = same_latest in
        let next = same_next in
        let initial = s.initial in
        let age = s.age in
        record {
          roomy = subst (λ (k : ℕ). 0 < k) (sym initial) a;
          aging = omega arith;
          timely = omega arith;
          above = omega arith;
        }
