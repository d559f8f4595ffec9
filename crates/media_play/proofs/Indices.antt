-- The index of a side's next RTCP datagram is that of its plain session.
use Rattle.std.proofs.Common.{◌≡◌, ℕ, ◌+◌, Bool, true, false, cond, ◌&&◌, List, [], ◌∷◌, ◌++◌, length, map, refl, sym, ap, ◌∙◌, length-append, arith}
use Rattle.std.proofs.lemmas.List.{append-nil}
use Rattle.std.proofs.lemmas.List.Concat.{flat_map-append}
use Rattle.rtp_base.specs.declared.kind.Kind.{Kind}
use Rattle.rtp_base.specs.declared.kind.Kind.TheVariants.{Rtp, Rtcp}
use Rattle.rtp_base.specs.Kind.{same_kind}
use Rattle.rtp_wire.specs.declared.extension.ExtensionMap.{ExtensionMap}
use Rattle.media_model.specs.declared.entry.Side.{Side}
use Rattle.media_model.specs.declared.entry.Side.TheVariants.{A, B}
use Rattle.media_model.specs.declared.entry.Sealed.{Sealed as SealedEntry}
use Rattle.media_model.specs.declared.entry.Opened.{Opened as OpenedEntry}
use Rattle.media_model.specs.declared.entry.Packet.{Packet}
use Rattle.media_model.specs.declared.entry.Entry.{Entry}
use Rattle.media_model.specs.declared.entry.Entry.TheVariants.{Wrote, Ticked, Called, Got, Sealed, Opened, Yielded}
use Rattle.media_model.specs.declared.step.Step.{Step}
use Rattle.media_model.specs.declared.setup.Setup.{Setup}
use Rattle.media_model.specs.Entries.{srtcp_index_by, srtcp_indices}
use Rattle.media_model.specs.Setup.{extensions_of, local_of}
use Rattle.media_model.specs.Sides.{same_side}
use Rattle.run_model.specs.Events.{Event, wrote, ticked, called, got, yielded}
use Rattle.run_model.specs.Receiving.{yields}
use Rattle.run_model.specs.RxPlay.{lists_in}
use Rattle.run_model.specs.Runs.{Happening, event_of, events_of, on_side}
use Rattle.run_model.specs.Transcripts.{happening_of, happenings, sealed_event, opened_event}
use Rattle.run_model.specs.Whole.{Config, Session, Counts, index_of, indices, Turns, writes, ticks, calls, requests, opens, hears, stays}
use Rattle.media_laws.specs.Feedback.{next_index}
use Rattle.media_laws.specs.Opening.{Sealing}
use Rattle.media_laws.specs.Play.{Plays, begins, by_a, by_b}

-- how many RTCP datagrams a turn seals

counted : (k : ℕ) (is : List ℕ) (next : ℕ) → Counts k is next → next ≡ k + length is
counted k [] next h = omega (arith, h)
counted k (i ∷ is) next h = let rest = counted (k + 1) is next h.1 in omega (arith, rest)

none_yielded : (ps : List Packet) → indices (map yielded ps) ≡ []
none_yielded [] = refl
none_yielded (p ∷ ps) = none_yielded ps

turn_counts : {C : Config} {side : Side} {a c : Session} {events : List Event} → Turns C side a c events → c.rtcp ≡ a.rtcp + length (indices events)
turn_counts (writes time w late unused) = omega arith
turn_counts {a = a} (ticks time new next late drains feedback counts) = counted a.rtcp (indices new) next counts
turn_counts (calls time items late others) = omega arith
turn_counts (requests time late) = omega arith
turn_counts {C = C} (opens time bytes ssrc n p s late there o) =
    let none = ap (λ (is : List ℕ). length is) (none_yielded (yields C.types s.0 (lists_in s.1) ssrc n p)) in omega (arith, none)
turn_counts (hears time bytes index items late report h) = omega arith
turn_counts (stays time kind bytes late no_rtp no_rtcp) = omega arith

-- as they are read off the entries

quiet : (b : Bool) (e : Event) → index_of e ≡ [] → indices (cond b (e ∷ []) []) ≡ []
quiet true e h = ap (λ (is : List ℕ). is ++ []) h
quiet false e h = refl

sealed_index : (b : Bool) (exts : ExtensionMap) (kind : Kind) (s : SealedEntry)
    → cond (b && same_kind Rtcp kind) (s.index ∷ []) [] ≡ indices (cond b (sealed_event exts kind s ∷ []) [])
sealed_index true exts Rtp s = refl
sealed_index true exts Rtcp s = refl
sealed_index false exts kind s = refl

opened_quiet : (exts : ExtensionMap) (kind : Kind) (o : OpenedEntry) → index_of (opened_event exts kind o) ≡ []
opened_quiet exts Rtp o = refl
opened_quiet exts Rtcp o = refl

index_read : (exts : ExtensionMap) (side : Side) (e : Entry) → srtcp_index_by side e ≡ indices (event_of side (happening_of exts e))
index_read exts side (Wrote s time w) = sym (quiet (same_side side s) (wrote time w) refl)
index_read exts side (Ticked s time) = sym (quiet (same_side side s) (ticked time) refl)
index_read exts side (Called s time call) = sym (quiet (same_side side s) (called time) refl)
index_read exts side (Got g) = sym (quiet (same_side side g.side) (got g.time g.kind g.bytes) refl)
index_read exts side (Sealed s) = sealed_index (same_side side s.side) exts s.kind s
index_read exts side (Opened o) = sym (quiet (same_side side o.side) (opened_event exts o.kind o) (opened_quiet exts o.kind o))
index_read exts side (Yielded s packet) = sym (quiet (same_side side s) (yielded packet) refl)

indices_read : (setup : Setup) (side : Side) (entries : List Entry) → srtcp_indices side entries ≡ indices (events_of side (happenings setup entries))
indices_read setup side [] = refl
indices_read setup side (e ∷ es) =
    (λ i. index_read (extensions_of setup) side e i ++ indices_read setup side es i)
    ∙ sym (flat_map-append index_of (event_of side (happening_of (extensions_of setup) e)) (events_of side (happenings setup es)))

same : (side : Side) → same_side side side ≡ true
same A = refl
same B = refl

own : (side : Side) (events : List Event) → events_of side (on_side side events) ≡ events
own side [] = refl
own side (e ∷ es) = λ i. cond (same side i) (e ∷ []) [] ++ own side es i

others : (other side : Side) (events : List Event) → same_side other side ≡ false → events_of other (on_side side events) ≡ []
others other side [] apart = refl
others other side (e ∷ es) apart = λ i. cond (apart i) (e ∷ []) [] ++ others other side es apart i

module _ (setup : Setup) (side : Side) (past chunk : List Entry) (events : List Event) (read : happenings setup chunk ≡ on_side side events) where
  index_after : {C : Config} {a c : Session} → Turns C side a c events → a.rtcp ≡ next_index setup side past → c.rtcp ≡ next_index setup side (past ++ chunk)
  index_after {a = a} {c = c} turn h =
      let new : srtcp_indices side chunk ≡ indices events =
      indices_read setup side chunk ∙ ap (λ (hs : List Happening). indices (events_of side hs)) read ∙ ap (λ (es : List Event). indices es) (own side events) in
      let all : length (srtcp_indices side (past ++ chunk)) ≡ length (srtcp_indices side past) + length (indices events) =
      ap (λ (is : List ℕ). length is) (flat_map-append (srtcp_index_by side) past chunk)
      ∙ length-append (srtcp_indices side past) (srtcp_indices side chunk) ∙ ap (λ (is : List ℕ). length (srtcp_indices side past) + length is) new in
      let turned : c.rtcp ≡ a.rtcp + length (indices events) = turn_counts turn in
      omega (arith, all, turned, h)

  index_other : (other : Side) → same_side other side ≡ false → next_index setup other (past ++ chunk) ≡ next_index setup other past
  index_other other apart =
      let none : srtcp_indices other chunk ≡ [] =
      indices_read setup other chunk ∙ ap (λ (hs : List Happening). indices (events_of other hs)) read ∙ ap (λ (es : List Event). indices es) (others other side events apart) in
      ap (λ (is : List ℕ). (local_of other setup).srtcp_index + length is)
      (flat_map-append (srtcp_index_by other) past chunk ∙ ap (λ (is : List ℕ). srtcp_indices other past ++ is) none ∙ append-nil (srtcp_indices other past))

-- the index under which each side seals its next RTCP datagram
pub plays_index : {seal : Sealing} {setup : Setup} {a b : Session} {steps : List Step} {entries : List Entry} → Plays seal setup a b steps entries
    → (a.rtcp ≡ next_index setup A entries) × (b.rtcp ≡ next_index setup B entries)
plays_index begins = (omega arith, omega arith)
plays_index {setup = setup} (by_a {entries = past} plays step new o) =
    let h = plays_index plays in (
      index_after setup A past new o.events o.read o.turn h.0,
      h.1 ∙ sym (index_other setup A past new o.events o.read B refl),
    )
plays_index {setup = setup} (by_b {entries = past} plays step new o) =
    let h = plays_index plays in (
      h.0 ∙ sym (index_other setup B past new o.events o.read A refl),
      index_after setup B past new o.events o.read o.turn h.1,
    )
