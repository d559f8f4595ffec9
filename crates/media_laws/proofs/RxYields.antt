-- No number is yielded twice.
use Rattle.std.proofs.Common.{◌≡◌, ◌⊎◌, inl, inr, ℕ, ◌+◌, true, eqb, List, [], ◌∷◌, ◌++◌, map, Option, Some, None, refl, sym, ap, ◌∙◌, subst}
use Rattle.std.specs.Prelude.{◌==◌}
use Rattle.std.specs.List.{flat_map, list_all}
use Rattle.std.proofs.lemmas.List.{map-append, append-nil}
use Rattle.std.proofs.lemmas.List.Concat.{flat_map-append}
use Rattle.std.proofs.lemmas.Bool.{and_parts, eq-eqb, false≢true}
use Rattle.repair_core.specs.Fresh.{greatest_of, is_fresh}
use Rattle.rtp_base.specs.declared.kind.Kind.TheVariants.{Rtp}
use Rattle.media_model.specs.declared.entry.Packet.{Packet}
use Rattle.run_model.specs.Events.{Plain, Event, ticked, got, opened, yielded, Types, Incoming}
use Rattle.run_model.specs.Listing.{IsIn, NoRepeat}
use Rattle.run_model.specs.Seals.{Sealing}
use Rattle.run_model.specs.TxPlay.{is_sealing}
use Rattle.run_model.specs.Receiving.{Lists, is_repair, begun_with, begun_taken, with_tried, restored, with_restored, after_opened, lists, first_packet, restored_packet, repair_yields, yields, is_fresh_number, packet_on, packets_on}
use Rattle.run_model.specs.RxPlay.{RxRecord, lists_in, IsAside, AreAside, RxStep, opens, ticks, passes, RxPlays, begun, step}
use Rattle.run_model.specs.RxLaws.{NoneTwice}
use Rattle.media_laws.proofs.Lists.{IsIn-left, IsIn-right, IsIn-append, NoRepeat-push, tested}
use Rattle.media_laws.proofs.RxTracks.{opened_same, ticked_same, fresh_new, RxTracks, rx_step_tracks, rx_tracks}

abbrev pub number_in : Packet → ℕ
number_in packet = packet.number

-- what opening a datagram yields: nothing, or one packet of which the number was not taken, and now is
pub record IsNew (L : Incoming) (before after : List ℕ) (packet : Packet) : Type 0 where
  pub source : packet.ssrc ≡ L.ssrc
  pub not_yet : IsIn packet.number before → ⊥
  pub now : IsIn packet.number after

abbrev pub YieldsNew : Incoming → List ℕ → List ℕ → List Packet → Type 0
YieldsNew L before after ps = (ps ≡ []) ⊎ ((packet : Packet) × (ps ≡ packet ∷ []) × IsNew L before after packet)

-- what is taken stays so
begun_keeps : (seen : Option ℕ) (l : List ℕ) (k : ℕ) → IsIn k l → IsIn k (begun_with seen l)
begun_keeps seen [] k i = absurd i
begun_keeps seen (n ∷ ns) k i = i

not_begun : (seen : Option ℕ) (l : List ℕ) (k : ℕ) → (IsIn k (begun_with seen l) → ⊥) → IsIn k l → ⊥
not_begun seen l k out i = out (begun_keeps seen l k i)

restored_keeps : (l : Lists) (q : Option ℕ) (k : ℕ) → IsIn k l.taken → IsIn k (with_restored l q).taken
restored_keeps l None k i = i
restored_keeps l (Some q) k i =
    elim (tested (is_fresh (begun_taken l) q)) [
      | inl t ↦ rw t (IsIn-left k (begun_taken l) (q ∷ []) (begun_keeps (greatest_of l.seen_main) l.taken k i))
      | inr t ↦ rw t i
    ]

opened_keeps : (T : Types) (L : Incoming) (l : Lists) (ssrc n : ℕ) (p : Plain) (k : ℕ) → IsIn k l.taken → IsIn k (after_opened T L l ssrc n p).taken
opened_keeps T L l ssrc n p k i =
    elim (tested (is_repair T L ssrc p)) [
      | inl t ↦ rw t (restored_keeps (with_tried L l ssrc n) (restored L l ssrc n p) k i)
      | inr t ↦ rw t (IsIn-left k (begun_taken l) (n ∷ []) (begun_keeps (greatest_of l.seen_main) l.taken k i))
    ]

repair_new : (T : Types) (L : Incoming) (l : Lists) (q : Option ℕ) (p : Plain) → YieldsNew L l.taken (with_restored l q).taken (repair_yields T L l q p)
repair_new T L l None p = inl refl
repair_new T L l (Some q) p =
    elim (tested (is_fresh (begun_taken l) q)) [
      | inl t ↦ inr (
        restored_packet T L q p,
        rw t refl,
        record {
          source = refl;
          not_yet = not_begun (greatest_of l.seen_main) l.taken q (fresh_new (begun_taken l) q t);
          now = rw t (IsIn-right q (begun_taken l) (q ∷ []) (inl refl));
        },
      )
      | inr t ↦ inl (rw t refl)
    ]

pub yields_new : (T : Types) (L : Incoming) (l : Lists) (ssrc n : ℕ) (p : Plain) → is_fresh_number T L l ssrc p n ≡ true → YieldsNew L l.taken (after_opened T L l ssrc n p).taken (yields T L l ssrc n p)
yields_new T L l ssrc n p fresh =
    elim (tested (is_repair T L ssrc p)) [
      | inl t ↦ rw t (repair_new T L (with_tried L l ssrc n) (restored L l ssrc n p) p)
      | inr t ↦ rw t (elim (tested (L.ssrc == 0)) [
        | inl z ↦ inl (rw z refl)
        | inr z ↦ inr (
          first_packet L n p,
          rw z refl,
          record {
            source = refl;
            not_yet = not_begun (greatest_of l.seen_main) l.taken n (fresh_new (begun_taken l) n (rw t at fresh));
            now = IsIn-right n (begun_taken l) (n ∷ []) (inl refl);
          },
        )
      ])
    ]

-- no number stands twice, and each is taken
record Once (T : Types) (L : Incoming) (events : List Event) : Type 0 where
  pub once : NoRepeat (map number_in (packets_on L events))
  pub took : (k : ℕ) → IsIn k (map number_in (packets_on L events)) → IsIn k (lists T L events).taken

packets-got : (L : Incoming) (events : List Event) (time : ℕ) (bytes : List ℕ) (ssrc n : ℕ) (p : Plain) (ps : List Packet)
    → packets_on L (events ++ got time Rtp bytes ∷ opened ssrc n p ∷ map yielded ps) ≡ packets_on L events ++ packets_on L (map yielded ps)
packets-got L events time bytes ssrc n p ps = flat_map-append (packet_on L) events (got time Rtp bytes ∷ opened ssrc n p ∷ map yielded ps)

once_after : (T : Types) (L : Incoming) (events new : List Event) (ps : List Packet) → packets_on L (events ++ new) ≡ packets_on L events ++ packets_on L (map yielded ps)
    → YieldsNew L (lists T L events).taken (lists T L (events ++ new)).taken ps → ((k : ℕ) → IsIn k (lists T L events).taken → IsIn k (lists T L (events ++ new)).taken) → Once T L events → Once T L (events ++ new)
once_after T L events new ps reads (inl nothing) keeps h =
    let same : packets_on L (events ++ new) ≡ packets_on L events = reads ∙ ap (λ qs. packets_on L events ++ packets_on L (map yielded qs)) nothing ∙ append-nil (packets_on L events) in record {
      once = subst (λ qs. NoRepeat (map number_in qs)) (sym same) h.once;
      took = λ k i. keeps k (h.took k (subst (λ qs. IsIn k (map number_in qs)) same i));
    }
once_after T L events new ps reads (inr (packet, is, n)) keeps h =
    let here : eqb packet.ssrc L.ssrc ≡ true = eq-eqb packet.ssrc L.ssrc n.source in
    let one : packets_on L (yielded packet ∷ []) ≡ packet ∷ [] = rw here refl in
    let more : map number_in (packets_on L (events ++ new)) ≡ map number_in (packets_on L events) ++ packet.number ∷ [] =
    ap (map number_in) (reads ∙ ap (λ qs. packets_on L events ++ packets_on L (map yielded qs)) is ∙ ap (λ qs. packets_on L events ++ qs) one) ∙ map-append number_in (packets_on L events) (packet ∷ []) in record {
      once = subst NoRepeat (sym more) (NoRepeat-push (map number_in (packets_on L events)) packet.number h.once (λ i. n.not_yet (h.took packet.number i)));
      took = λ k i. elim (IsIn-append k (map number_in (packets_on L events)) (packet.number ∷ []) (subst (IsIn k) more i)) [
        | inl j ↦ keeps k (h.took k j)
        | inr j ↦ elim j [ inl e ↦ subst (λ m. IsIn m (lists T L (events ++ new)).taken) (sym e) n.now | inr other ↦ absurd other ]
      ];
    }

once_same : (T : Types) (L : Incoming) (events new : List Event) → flat_map (packet_on L) new ≡ [] → ((k : ℕ) → IsIn k (lists T L events).taken → IsIn k (lists T L (events ++ new)).taken)
    → Once T L events → Once T L (events ++ new)
once_same T L events new is keeps h =
    once_after T L events new [] (flat_map-append (packet_on L) events new ∙ ap (λ qs. packets_on L events ++ qs) is) (inl refl) keeps h

no_packets : (L : Incoming) (new : List Event) → list_all is_sealing new ≡ true → flat_map (packet_on L) new ≡ []
no_packets L [] all = refl
no_packets L (e ∷ new) all = let parts = and_parts (is_sealing e) (list_all is_sealing new) all in ap (λ ps. ps ++ flat_map (packet_on L) new) (one e parts.0) ∙ no_packets L new parts.1
  where
    one : (e : Event) → is_sealing e ≡ true → packet_on L e ≡ []
    one (yielded packet) is = absurd (false≢true is)
    one _ is = refl

aside_none : (L : Incoming) (e : Event) → IsAside L e → packet_on L e ≡ []
aside_none L (yielded packet) is = rw is refl
aside_none L _ is = refl

asides_none : (L : Incoming) (new : List Event) → AreAside L new → flat_map (packet_on L) new ≡ []
asides_none L [] all = refl
asides_none L (e ∷ new) all = ap (λ ps. ps ++ flat_map (packet_on L) new) (aside_none L e all.0) ∙ asides_none L new all.1

-- what was taken before a step is taken after it
taken_moves : {T : Types} {L : Incoming} {x y : RxRecord} (events new : List Event) → RxTracks T L events x → RxTracks T L (events ++ new) y
    → ((k : ℕ) → IsIn k (lists_in x).taken → IsIn k (lists_in y).taken) → (k : ℕ) → IsIn k (lists T L events).taken → IsIn k (lists T L (events ++ new)).taken
taken_moves events new a b keeps k i = subst (λ (l : Lists). IsIn k l.taken) (sym b.same) (keeps k (subst (λ (l : Lists). IsIn k l.taken) a.same i))

once_step : {T : Types} {L : Incoming} {peer : Sealing} {threshold : ℕ} {x y : RxRecord} {new : List Event} (events : List Event) → RxStep T L peer threshold x y new → RxTracks T L events x
    → RxTracks T L (events ++ new) y → Once T L events → Once T L (events ++ new)
once_step {T} {L} {threshold = threshold} {x = x} events (opens time bytes ssrc n p o) a b h =
    let there = opened_same T L x (time + threshold) ssrc n p a.begins o.fresh ∙ sym b.same in
    let all : List Event = got time Rtp bytes ∷ opened ssrc n p ∷ map yielded (yields T L (lists_in x) ssrc n p) in
    once_after T L events all (yields T L (lists_in x) ssrc n p)
    (packets-got L events time bytes ssrc n p (yields T L (lists_in x) ssrc n p))
    (subst (λ (l : Lists). YieldsNew L (lists T L events).taken l.taken (yields T L (lists_in x) ssrc n p)) there
    (subst (λ (l : Lists). YieldsNew L l.taken (after_opened T L (lists_in x) ssrc n p).taken (yields T L (lists_in x) ssrc n p)) (sym a.same)
    (yields_new T L (lists_in x) ssrc n p o.fresh)))
    (taken_moves events all a b (λ k i. subst (λ (l : Lists). IsIn k l.taken) (there ∙ b.same) (opened_keeps T L (lists_in x) ssrc n p k i)))
    h
once_step {T} {L} {x = x} events (ticks time asks new all) a b h =
    once_same T L events (ticked time ∷ new) (no_packets L new all)
    (taken_moves events (ticked time ∷ new) a b (λ k i. subst (IsIn k) (sym (ticked_same time asks x.numbers).0) i)) h
once_step {T} {L} events (passes new aside) a b h =
    once_same T L events new (asides_none L new aside) (taken_moves events new a b (λ k i. i)) h

once : {T : Types} {L : Incoming} {peer : Sealing} {threshold : ℕ} {x : RxRecord} {events : List Event} → RxPlays T L peer threshold x events → Once T L events
once begun = record { once = tt; took = λ k i. absurd i }
once (step {events = events} h s) = let a = rx_tracks h in once_step events s a (rx_step_tracks events s a) (once h)

pub none_twice : NoneTwice
none_twice T L peer threshold x events h = (once h).once
