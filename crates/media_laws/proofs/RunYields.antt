-- In a genuine run whose repairs widen, what a stream yields was written by the other side.
use Rattle.std.proofs.Common.{◌≡◌, inl, inr, ℕ, true, false, eqb, List, [], ◌∷◌, ◌++◌, map, Option, Some, None, refl, sym, ap, ◌∙◌, subst, append_assoc}
use Rattle.std.specs.Prelude.{◌==◌, if◌then◌else◌}
use Rattle.std.specs.List.{list_all}
use Rattle.std.proofs.lemmas.List.{append-nil}
use Rattle.std.proofs.lemmas.List.Sums.{fold-append}
use Rattle.std.proofs.lemmas.List.Concat.{flat_map-append}
use Rattle.std.proofs.lemmas.Bool.{and_parts, or_cases, eq-eqb, eqb-true, false≢true}
use Rattle.repair_core.specs.Fresh.{is_fresh}
use Rattle.rtp_base.specs.declared.kind.Kind.{Kind}
use Rattle.rtp_base.specs.declared.kind.Kind.TheVariants.{Rtp}
use Rattle.media_model.specs.declared.entry.Write.{Write}
use Rattle.media_model.specs.declared.entry.Packet.{Packet}
use Rattle.run_model.specs.Events.{as_packet, Plain, Event, wrote, ticked, called, got, sealed, sealed_items, opened, opened_items, yielded, Types, Outgoing, Incoming}
use Rattle.run_model.specs.Listing.{IsIn}
use Rattle.run_model.specs.Sending.{sendings, nothing_sent, sending_on, first_sendings, write_on, writes_on, sending_of, Carries}
use Rattle.run_model.specs.Seals.{Sealing, IsSeal}
use Rattle.run_model.specs.TxPlay.{is_sealing, TxRecord, IsApart, is_of, TxPlays, begun as tx_begun, step as tx_step}
use Rattle.run_model.specs.Receiving.{Lists, concerns, is_repair, begun_taken, with_tried, restored, behind_two, list_step, lists, first_packet, restored_packet, repair_yields, yields, Opens, no_lists}
use Rattle.run_model.specs.RxPlay.{IsAside, AreAside, RxRecord, lists_in, RxStep, opens, ticks, passes, RxPlays, begun as rx_begun, step as rx_step}
use Rattle.media_model.specs.declared.entry.Side.{Side}
use Rattle.media_model.specs.declared.entry.Side.TheVariants.{A, B}
use Rattle.media_model.specs.Sides.{peer_of, same_side}
use Rattle.run_model.specs.Runs.{Happening, event_of, events_of, on_side, EachFrom, last_got, IsGenuineAt, IsGenuine, without_padding, WidensAt, RepairsWiden, IsOwedAt, YieldsWrites, Runs, begun, sends, receives, SealsApart, TypesPair, StreamsYieldWrites}
use Rattle.media_laws.proofs.Lists.{IsIn-left, IsIn-map, IsIn-from_map, IsIn-flat_map, IsIn-from_flat_map, tested}
use Rattle.media_laws.proofs.TxTracks.{numbered}
use Rattle.media_laws.proofs.TxPlays.{tracks, writes_are}
use Rattle.media_laws.proofs.TxSeals.{plays_seal}
use Rattle.media_laws.proofs.RxTracks.{rx_tracks}
use Rattle.rtp_base.specs.Window.{is_just}

-- sides

same_self : (s : Side) → same_side s s ≡ true
same_self A = refl
same_self B = refl

pub peer_other : (s : Side) → same_side (peer_of s) s ≡ false
peer_other A = refl
peer_other B = refl

pub own_other : (s : Side) → same_side s (peer_of s) ≡ false
own_other A = refl
own_other B = refl

events_own : (s : Side) (new : List Event) → events_of s (on_side s new) ≡ new
events_own s [] = refl
events_own s (e ∷ new) = rw (same_self s) (ap (λ es. e ∷ es) (events_own s new))

events_none : (s r : Side) (new : List Event) → same_side s r ≡ false → events_of s (on_side r new) ≡ []
events_none s r [] other = refl
events_none s r (e ∷ new) other = rw other (events_none s r new other)

pub events_more : (s : Side) (entries : List Happening) (new : List Event) → events_of s (entries ++ on_side s new) ≡ events_of s entries ++ new
events_more s entries new = flat_map-append (event_of s) entries (on_side s new) ∙ ap (λ es. events_of s entries ++ es) (events_own s new)

pub events_same : (s r : Side) (entries : List Happening) (new : List Event) → same_side s r ≡ false → events_of s (entries ++ on_side r new) ≡ events_of s entries
events_same s r entries new other =
    flat_map-append (event_of s) entries (on_side r new) ∙ ap (λ es. events_of s entries ++ es) (events_none s r new other) ∙ append-nil (events_of s entries)

-- what each of the two records sees of the run

pub tx_plays : {T : Types} {seal : Sealing} {threshold : ℕ} {side : Side} {M : Outgoing} {L : Incoming} {t : TxRecord} {x : RxRecord} {entries : List Happening} → Runs T seal threshold side M L t x entries
    → TxPlays T M seal t (events_of (peer_of side) entries)
tx_plays begun = tx_begun
tx_plays {T} {seal} {side = side} {M = M} {t = t} (sends {entries = entries} {new = new} h s) = subst (TxPlays T M seal t) (sym (events_more (peer_of side) entries new)) (tx_step (tx_plays h) s)
tx_plays {T} {seal} {side = side} {M = M} {t = t} (receives {entries = entries} {new = new} h s) = subst (TxPlays T M seal t) (sym (events_same (peer_of side) side entries new (peer_other side))) (tx_plays h)

pub rx_plays : {T : Types} {seal : Sealing} {threshold : ℕ} {side : Side} {M : Outgoing} {L : Incoming} {t : TxRecord} {x : RxRecord} {entries : List Happening} → Runs T seal threshold side M L t x entries
    → RxPlays T L seal threshold x (events_of side entries)
rx_plays begun = rx_begun
rx_plays {T} {seal} {threshold} {side} {L = L} {x = x} (sends {entries = entries} {new = new} h s) = subst (RxPlays T L seal threshold x) (sym (events_same side (peer_of side) entries new (own_other side))) (rx_plays h)
rx_plays {T} {seal} {threshold} {side} {L = L} {x = x} (receives {entries = entries} {new = new} h s) = subst (RxPlays T L seal threshold x) (sym (events_more side entries new)) (rx_step (rx_plays h) s)

-- a statement on each entry

module _ (P : List Happening → Happening → Type 0) where
  EachFrom-append : (past xs ys : List Happening) → EachFrom P past xs → EachFrom P (past ++ xs) ys → EachFrom P past (xs ++ ys)
  EachFrom-append past [] ys h k = subst (λ es. EachFrom P es ys) (append-nil past) k
  EachFrom-append past (x ∷ xs) ys h k = (h.0, EachFrom-append (past ++ x ∷ []) xs ys h.1 (subst (λ es. EachFrom P es ys) (sym (append_assoc past (x ∷ []) xs)) k))

  EachFrom-left : (past xs ys : List Happening) → EachFrom P past (xs ++ ys) → EachFrom P past xs
  EachFrom-left past [] ys h = tt
  EachFrom-left past (x ∷ xs) ys h = (h.0, EachFrom-left (past ++ x ∷ []) xs ys h.1)

  EachFrom-right : (past xs ys : List Happening) → EachFrom P past (xs ++ ys) → EachFrom P (past ++ xs) ys
  EachFrom-right past [] ys h = subst (λ es. EachFrom P es ys) (sym (append-nil past)) h
  EachFrom-right past (x ∷ xs) ys h = subst (λ es. EachFrom P es ys) (append_assoc past (x ∷ []) xs) (EachFrom-right (past ++ x ∷ []) xs ys h.1)

peer_is_not : (side : Side) → peer_of side ≡ side → ⊥
peer_is_not side e = false≢true (sym (peer_other side) ∙ ap (λ s. same_side s side) e ∙ same_self side)

-- the other side's entries owe nothing
each_other : (side : Side) (L : Incoming) (past : List Happening) (new : List Event) → EachFrom (IsOwedAt side L) past (on_side (peer_of side) new)
each_other side L past [] = tt
each_other side L past (e ∷ new) = (one e, each_other side L (past ++ (peer_of side, e) ∷ []) new)
  where
    one : (e : Event) → IsOwedAt side L past (peer_of side, e)
    one (yielded packet) = λ is at. absurd (peer_is_not side is)
    one (wrote time w) = tt
    one (ticked time) = tt
    one (called time) = tt
    one (got time kind bytes) = tt
    one (sealed ssrc n p bytes) = tt
    one (sealed_items index items) = tt
    one (opened ssrc n p) = tt
    one (opened_items index items) = tt

-- the packet is a write among these events
abbrev pub IsWriteOf : Incoming → List Event → Packet → Type 0
IsWriteOf L events packet = (w : Write) × IsIn w (writes_on L.ssrc events) × (packet ≡ as_packet w)

each_yielded : (side : Side) (L : Incoming) (events : List Event) (past : List Happening) (ps : List Packet) → events_of (peer_of side) past ≡ events → ((packet : Packet) → IsIn packet ps → IsWriteOf L events packet)
    → EachFrom (IsOwedAt side L) past (on_side side (map yielded ps))
each_yielded side L events past [] is all = tt
each_yielded side L events past (packet ∷ ps) is all = (
  λ own at. subst (λ es. IsWriteOf L es packet) (sym is) (all packet (inl refl)),
  each_yielded side L events (past ++ (side, yielded packet) ∷ []) ps (events_same (peer_of side) side past (yielded packet ∷ []) (peer_other side) ∙ is) (λ q i. all q (inr i)),
)

no_yields : (side : Side) (L : Incoming) (past : List Happening) (new : List Event) → ((e : Event) → IsIn e new → (packet : Packet) → e ≡ yielded packet → packet.ssrc ≡ L.ssrc → ⊥) → EachFrom (IsOwedAt side L) past (on_side side new)
no_yields side L past [] none = tt
no_yields side L past (e ∷ new) none = (one e (none e (inl refl)), no_yields side L (past ++ (side, e) ∷ []) new (λ f i. none f (inr i)))
  where
    one : (e : Event) → ((packet : Packet) → e ≡ yielded packet → packet.ssrc ≡ L.ssrc → ⊥) → IsOwedAt side L past (side, e)
    one (yielded packet) out = λ is at. absurd (out packet refl at)
    one (wrote time w) out = tt
    one (ticked time) out = tt
    one (called time) out = tt
    one (got time kind bytes) out = tt
    one (sealed ssrc n p bytes) out = tt
    one (sealed_items index items) out = tt
    one (opened ssrc n p) out = tt
    one (opened_items index items) out = tt

-- a write that was sent

sent_is_written : {T : Types} {M : Outgoing} {seal : Sealing} {t : TxRecord} {events : List Event} → IsApart M → TxPlays T M seal t events → (x : ℕ × Write) → IsIn x (sendings M.ssrc events).sent
    → IsIn x.1 (writes_on M.ssrc events)
sent_is_written {M = M} {events = events} apart h x i =
    let whole = sym (writes_are M.ssrc events nothing_sent) ∙ (tracks apart h).follows.whole in
    subst (IsIn x.1) (sym whole) (IsIn-left x.1 (map (λ (y : ℕ × Write). y.1) (sendings M.ssrc events).sent) (sendings M.ssrc events).waiting (IsIn-map (λ (y : ℕ × Write). y.1) x (sendings M.ssrc events).sent i))

written_on : (m : ℕ) (events : List Event) (w : Write) → IsIn w (writes_on m events) → w.ssrc ≡ m
written_on m events w i = let r = IsIn-from_flat_map (write_on m) w events i in one r.0 r.2
  where
    one : (e : Event) → IsIn w (write_on m e) → w.ssrc ≡ m
    one (wrote time v) j =
        elim (tested (eqb v.ssrc m)) [
          | inl t ↦ elim (rw t at j) [ inl is ↦ ap (λ (u : Write). u.ssrc) is ∙ eqb-true v.ssrc m t | inr k ↦ absurd k ]
          | inr t ↦ absurd (rw t at j)
        ]
    one (ticked time) j = absurd j
    one (called time) j = absurd j
    one (got time kind bytes) j = absurd j
    one (sealed ssrc n p bytes) j = absurd j
    one (sealed_items index items) j = absurd j
    one (opened ssrc n p) j = absurd j
    one (opened_items index items) j = absurd j
    one (yielded packet) j = absurd j

-- what is sealed on the main SSRC is a first sending
sealed_is_sent : {T : Types} {M : Outgoing} {seal : Sealing} {t : TxRecord} {events : List Event} → IsApart M → TxPlays T M seal t events → (n : ℕ) (q : Plain) (bytes : List ℕ)
    → IsIn (sealed M.ssrc n q bytes) events → (x : ℕ × Write) × IsIn x (sendings M.ssrc events).sent × (x.1.number ≡ n) × (q ≡ sending_of x.1) × IsSeal seal M.ssrc n q bytes
sealed_is_sent {M = M} {events = events} apart h n q bytes i =
    let here : eqb M.ssrc M.ssrc ≡ true = eq-eqb M.ssrc M.ssrc refl in
    let own : is_of M (sealed M.ssrc n q bytes) ≡ true = rw here refl in
    let is = plays_seal h (sealed M.ssrc n q bytes) i own in
    let bare : q.padded ≡ false = is.1 in
    let one : sending_on M.ssrc (sealed M.ssrc n q bytes) ≡ (n, q) ∷ [] = rw (here, bare) refl in
    let among : IsIn (n, q) (first_sendings M.ssrc events) = IsIn-flat_map (sending_on M.ssrc) (sealed M.ssrc n q bytes) (n, q) events i (subst (IsIn (n, q)) (sym one) (inl refl)) in
    let from = IsIn-from_map numbered (n, q) (sendings M.ssrc events).sent (subst (IsIn (n, q)) (tracks apart h).follows.firsts among) in
    let same : ◌≡◌ {A = ℕ × Plain} (n, q) (numbered from.0) = from.2 in
    (from.0, from.1, sym (ap (λ (z : ℕ × Plain). z.0) same), ap (λ (z : ℕ × Plain). z.1) same, is.0)

same_packet : (a b : Packet) → a.ssrc ≡ b.ssrc → a.number ≡ b.number → a.pt ≡ b.pt → a.rtp_time ≡ b.rtp_time → a.marker ≡ b.marker → a.csrc ≡ b.csrc → a.payload ≡ b.payload → a ≡ b
same_packet a b e1 e2 e3 e4 e5 e6 e7 = λ i. record { ssrc = e1 i; number = e2 i; pt = e3 i; rtp_time = e4 i; marker = e5 i; csrc = e6 i; payload = e7 i }

restored_is_write : {T : Types} (L : Incoming) (q : ℕ) (p : Plain) (w : Write) → TypesPair T → w.ssrc ≡ L.ssrc → w.number ≡ q → Carries T (without_padding p) w → restored_packet T L q p ≡ as_packet w
restored_is_write {T} L q p w pair at number c =
    same_packet (restored_packet T L q p) (as_packet w) (sym at) (sym number) (pair w.pt p.pt c.type) c.time c.marker c.csrc (ap behind_two c.payload)

pub first_is_write : (L : Incoming) (n : ℕ) (p : Plain) (w : Write) → w.ssrc ≡ L.ssrc → w.number ≡ n → p ≡ sending_of w → first_packet L n p ≡ as_packet w
first_is_write L n p w at number is =
    ap (first_packet L n) is ∙ same_packet (first_packet L n (sending_of w)) (as_packet w) (sym at) (sym number) refl refl refl refl refl

-- what is yielded where a datagram is opened

pub sent_is_write_of : {T : Types} {M : Outgoing} (L : Incoming) {seal : Sealing} {t : TxRecord} {events : List Event} → IsApart M → M.ssrc ≡ L.ssrc → TxPlays T M seal t events → (x : ℕ × Write) → IsIn x (sendings M.ssrc events).sent
    → IsIn x.1 (writes_on L.ssrc events) × (x.1.ssrc ≡ L.ssrc)
sent_is_write_of L {events = events} apart same h x i =
    let there = subst (λ m. IsIn x.1 (writes_on m events)) same (sent_is_written apart h x i) in
    (there, written_on L.ssrc events x.1 there)

owed_restored : {T : Types} {M : Outgoing} (L : Incoming) {seal : Sealing} {t : TxRecord} (events : List Event) → TypesPair T → IsApart M → M.ssrc ≡ L.ssrc → TxPlays T M seal t events → (l : Lists) (p : Plain) (o : Option ℕ)
    → ((q : ℕ) → o ≡ Some q → (x : ℕ × Write) × IsIn x (sendings L.ssrc events).sent × (x.1.number ≡ q) × Carries T (without_padding p) x.1)
    → (packet : Packet) → IsIn packet (repair_yields T L l o p) → IsWriteOf L events packet
owed_restored L events pair apart same h l p None widens packet i = absurd i
owed_restored {T} L events pair apart same h l p (Some q) widens packet i =
    elim (tested (is_fresh (begun_taken l) q)) [
      | inl t ↦ elim (rw t at i) [ inl e ↦ owed e | inr k ↦ absurd k ]
      | inr t ↦ absurd (rw t at i)
    ]
  where
    owed : packet ≡ restored_packet T L q p → IsWriteOf L events packet
    owed e =
        let w = widens q refl in
        let is = sent_is_write_of L apart same h w.0 (subst (λ m. IsIn w.0 (sendings m events).sent) (sym same) w.1) in
        (w.0.1, is.0, e ∙ restored_is_write L q p w.0.1 pair is.1 w.2 w.3)

owed_first : {T : Types} {M : Outgoing} (L : Incoming) {seal : Sealing} {t : TxRecord} (events : List Event) → SealsApart seal → IsApart M → M.ssrc ≡ L.ssrc → TxPlays T M seal t events → (ssrc n : ℕ) (p q : Plain) (bytes : List ℕ)
    → ssrc ≡ L.ssrc → IsIn (sealed ssrc n q bytes) events → IsSeal seal ssrc n p bytes → (packet : Packet) → packet ≡ first_packet L n p → IsWriteOf L events packet
owed_first {T} {M} L {seal} events seals apart same h ssrc n p q bytes main i to packet e =
    let own : ssrc ≡ M.ssrc = main ∙ sym same in
    let s = sealed_is_sent apart h n q bytes (subst (λ r. IsIn (sealed r n q bytes) events) own i) in
    let plain : p ≡ q = seals M.ssrc n p q bytes (subst (λ r. IsSeal seal r n p bytes) own to) s.4 in
    let is = sent_is_write_of L apart same h s.0 s.1 in
    (s.0.1, is.0, e ∙ first_is_write L n p s.0.1 is.1 s.2 (plain ∙ s.3))

last_got-push : (old : List ℕ) (events : List Event) (time : ℕ) (kind : Kind) (bytes : List ℕ) → last_got old (events ++ got time kind bytes ∷ []) ≡ bytes
last_got-push old [] time kind bytes = refl
last_got-push old (got t k new ∷ events) time kind bytes = last_got-push new events time kind bytes
last_got-push old (wrote t w ∷ events) time kind bytes = last_got-push old events time kind bytes
last_got-push old (called t ∷ events) time kind bytes = last_got-push old events time kind bytes
last_got-push old (ticked t ∷ events) time kind bytes = last_got-push old events time kind bytes
last_got-push old (sealed r n p b ∷ events) time kind bytes = last_got-push old events time kind bytes
last_got-push old (sealed_items index items ∷ events) time kind bytes = last_got-push old events time kind bytes
last_got-push old (opened r n p ∷ events) time kind bytes = last_got-push old events time kind bytes
last_got-push old (opened_items index items ∷ events) time kind bytes = last_got-push old events time kind bytes
last_got-push old (yielded packet ∷ events) time kind bytes = last_got-push old events time kind bytes

-- a datagram that is no repair has the main SSRC
pub main_of : (L : Incoming) (T : Types) (ssrc : ℕ) (p : Plain) → concerns L ssrc ≡ true → is_repair T L ssrc p ≡ false → ssrc ≡ L.ssrc
main_of L T ssrc p mine other =
    elim (or_cases (eqb ssrc L.ssrc) (is_just ssrc L.rtx) mine) [
      | inl t ↦ eqb-true ssrc L.ssrc t
      | inr t ↦ absurd (false≢true (sym other ∙ rw t refl))
    ]

owed_opened : {T : Types} {seal : Sealing} {threshold : ℕ} {side : Side} {M : Outgoing} {L : Incoming} {t : TxRecord} {x : RxRecord} {entries : List Happening} → SealsApart seal → TypesPair T → M.ssrc ≡ L.ssrc → IsApart M
    → Runs T seal threshold side M L t x entries → (time : ℕ) (bytes : List ℕ) (ssrc n : ℕ) (p : Plain) → Opens T L seal (lists_in x) bytes ssrc n p
    → IsGenuineAt (entries ++ (side, got time Rtp bytes) ∷ []) (side, opened ssrc n p) → WidensAt T side L (entries ++ (side, got time Rtp bytes) ∷ []) (side, opened ssrc n p)
    → (packet : Packet) → IsIn packet (yields T L (lists_in x) ssrc n p) → IsWriteOf L (events_of (peer_of side) entries) packet
owed_opened {T} {seal} {side = side} {M = M} {L = L} {x = x} {entries = entries} seals pair same apart h time bytes ssrc n p o genuine widens packet i =
    elim (tested (is_repair T L ssrc p)) [
      | inl t ↦ owed_restored L peers pair apart same (tx_plays h) (with_tried L (lists_in x) ssrc n) p (restored L (lists_in x) ssrc n p) (carried t) packet (rw t at i)
      | inr t ↦ first t (rw t at i)
    ]
  where
    past : List Happening
    past = entries ++ (side, got time Rtp bytes) ∷ []

    peers : List Event
    peers = events_of (peer_of side) entries

    peers_same : events_of (peer_of side) past ≡ peers
    peers_same = events_same (peer_of side) side entries (got time Rtp bytes ∷ []) (peer_other side)

    own_more : events_of side past ≡ events_of side entries ++ got time Rtp bytes ∷ []
    own_more = events_more side entries (got time Rtp bytes ∷ [])

    lists_same : lists T L (events_of side past) ≡ lists_in x
    lists_same = ap (lists T L) own_more ∙ fold-append (list_step T L) no_lists (events_of side entries) (got time Rtp bytes ∷ []) ∙ (rx_tracks (rx_plays h)).same

    carried : is_repair T L ssrc p ≡ true → (q : ℕ) → restored L (lists_in x) ssrc n p ≡ Some q
        → (y : ℕ × Write) × IsIn y (sendings L.ssrc peers).sent × (y.1.number ≡ q) × Carries T (without_padding p) y.1
    carried t q is =
        let w = widens refl o.mine t q (ap (λ l. restored L l ssrc n p) lists_same ∙ is) in
        (w.0, subst (λ es. IsIn w.0 (sendings L.ssrc es).sent) peers_same w.1, w.2, w.3)

    sealed_there : IsIn (sealed ssrc n genuine.0 bytes) peers
    sealed_there =
        let last : last_got [] (events_of side past) ≡ bytes = ap (last_got []) own_more ∙ last_got-push [] (events_of side entries) time Rtp bytes in
        let among = subst (λ b. IsIn (peer_of side, sealed ssrc n genuine.0 b) past) last genuine.1 in
        subst (IsIn (sealed ssrc n genuine.0 bytes)) peers_same
        (IsIn-flat_map (event_of (peer_of side)) (peer_of side, sealed ssrc n genuine.0 bytes) (sealed ssrc n genuine.0 bytes) past among (rw (same_self (peer_of side)) (inl refl)))

    first : is_repair T L ssrc p ≡ false → IsIn packet (if L.ssrc == 0 then [] else first_packet L n p ∷ []) → IsWriteOf L peers packet
    first t j = elim (tested (L.ssrc == 0)) [
      | inl z ↦ absurd (rw z at j)
      | inr z ↦ elim (rw z at j) [
        | inl e ↦ owed_first L peers seals apart same (tx_plays h) ssrc n p genuine.0 bytes (main_of L T ssrc p o.mine t) sealed_there o.sealed packet e
        | inr k ↦ absurd k
      ]
    ]

sealings_quiet : (new : List Event) → list_all is_sealing new ≡ true → (e : Event) → IsIn e new → (packet : Packet) → e ≡ yielded packet → ⊥
sealings_quiet [] all e i packet is = i
sealings_quiet (f ∷ new) all e (inl at) packet is = false≢true (ap is_sealing (sym is ∙ at) ∙ (and_parts _ _ all).0)
sealings_quiet (f ∷ new) all e (inr i) packet is = sealings_quiet new (and_parts _ _ all).1 e i packet is

aside_yields : (L : Incoming) (new : List Event) → AreAside L new → (e : Event) → IsIn e new → (packet : Packet) → e ≡ yielded packet → packet.ssrc ≡ L.ssrc → ⊥
aside_yields L [] all e i packet is at = i
aside_yields L (f ∷ new) all e (inl here) packet is at =
    let other : (packet.ssrc == L.ssrc) ≡ false = subst (IsAside L) (sym here ∙ is) all.0 in false≢true (sym other ∙ eq-eqb packet.ssrc L.ssrc at)
aside_yields L (f ∷ new) all e (inr i) packet is at = aside_yields L new all.1 e i packet is at

owed_step : {T : Types} {seal : Sealing} {threshold : ℕ} {side : Side} {M : Outgoing} {L : Incoming} {t : TxRecord} {x y : RxRecord} {entries : List Happening} {new : List Event} → SealsApart seal → TypesPair T → M.ssrc ≡ L.ssrc → IsApart M
    → Runs T seal threshold side M L t x entries → RxStep T L seal threshold x y new → EachFrom IsGenuineAt entries (on_side side new) → EachFrom (WidensAt T side L) entries (on_side side new)
    → EachFrom (IsOwedAt side L) entries (on_side side new)
owed_step {T} {side = side} {L = L} {x = x} {entries = entries} seals pair same apart h (opens time bytes ssrc n p o) genuine widens = (
  tt,
  (
    tt,
    each_yielded side L (events_of (peer_of side) entries) ((entries ++ (side, got time Rtp bytes) ∷ []) ++ (side, opened ssrc n p) ∷ []) (yields T L (lists_in x) ssrc n p)
        (events_same (peer_of side) side (entries ++ (side, got time Rtp bytes) ∷ []) (opened ssrc n p ∷ []) (peer_other side) ∙ events_same (peer_of side) side entries (got time Rtp bytes ∷ []) (peer_other side))
        (owed_opened seals pair same apart h time bytes ssrc n p o genuine.1.0 widens.1.0),
  ),
)
owed_step {side = side} {L = L} {entries = entries} seals pair same apart h (ticks time asks new all) genuine widens =
    (tt, no_yields side L (entries ++ (side, ticked time) ∷ []) new (λ e i packet is at. sealings_quiet new all e i packet is))
owed_step {side = side} {L = L} {entries = entries} seals pair same apart h (passes new aside) genuine widens =
    no_yields side L entries new (λ f i packet is at. aside_yields L new aside f i packet is at)

owed : {T : Types} {seal : Sealing} {threshold : ℕ} {side : Side} {M : Outgoing} {L : Incoming} {t : TxRecord} {x : RxRecord} {entries : List Happening} → SealsApart seal → TypesPair T → M.ssrc ≡ L.ssrc → IsApart M
    → Runs T seal threshold side M L t x entries → IsGenuine entries → RepairsWiden T side L entries → YieldsWrites side L entries
owed seals pair same apart begun genuine widens = tt
owed {side = side} {L = L} seals pair same apart (sends {entries = entries} {new = new} h s) genuine widens =
    EachFrom-append (IsOwedAt side L) [] entries (on_side (peer_of side) new)
    (owed seals pair same apart h (EachFrom-left IsGenuineAt [] entries (on_side (peer_of side) new) genuine) (EachFrom-left (WidensAt _ side L) [] entries (on_side (peer_of side) new) widens))
    (each_other side L entries new)
owed {side = side} {L = L} seals pair same apart (receives {entries = entries} {new = new} h s) genuine widens =
    EachFrom-append (IsOwedAt side L) [] entries (on_side side new)
    (owed seals pair same apart h (EachFrom-left IsGenuineAt [] entries (on_side side new) genuine) (EachFrom-left (WidensAt _ side L) [] entries (on_side side new) widens))
    (owed_step seals pair same apart h s (EachFrom-right IsGenuineAt [] entries (on_side side new) genuine) (EachFrom-right (WidensAt _ side L) [] entries (on_side side new) widens))

pub streams_yield_writes : StreamsYieldWrites
streams_yield_writes T seal threshold side M L t x entries seals pair same apart h genuine widens = owed seals pair same apart h genuine widens
