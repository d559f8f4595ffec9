-- Where the first sending of a write comes, the write is yielded exactly where its number widens to itself and is fresh.
use Rattle.std.proofs.Common.{◌≡◌, inl, inr, ℕ, ◌+◌, ◌≤◌, ◌%◌, true, List, [], ◌∷◌, length, Some, None, sym, ap, ◌∙◌, subst, arith}
use Rattle.std.specs.Option.{option_map}
use Rattle.std.proofs.lemmas.Bool.{eq-eqb}
use Rattle.rtp_base.specs.Widen.{widen16}
use Rattle.rtp_base.specs.declared.kind.Kind.{Kind}
use Rattle.rtp_base.specs.declared.kind.Kind.TheVariants.{Rtp, Rtcp}
use Rattle.repair_core.specs.Fresh.{greatest_of, is_fresh}
use Rattle.setup_rules.specs.SetupRules.{setup_fault}
use Rattle.run_model.specs.Transcripts.{read_of, plain_in, sealed_event, opened_event, happening_of, happenings}
use Rattle.media_model.specs.declared.entry.Packet.{Packet}
use Rattle.media_model.specs.declared.entry.Side.{Side}
use Rattle.media_model.specs.declared.entry.Write.{Write as Writing}
use Rattle.media_model.specs.declared.entry.Got.{Got as GotEntry}
use Rattle.media_model.specs.declared.entry.Opened.{Opened as OpenedEntry}
use Rattle.media_model.specs.declared.entry.Sealed.{Sealed as SealedEntry}
use Rattle.media_model.specs.declared.entry.Entry.{Entry}
use Rattle.media_model.specs.declared.entry.Entry.TheVariants.{Wrote, Ticked, Called, Got, Sealed, Opened, Yielded}
use Rattle.media_model.specs.declared.setup.Setup.{Setup}
use Rattle.media_model.specs.declared.step.Step.{Step}
use Rattle.media_model.specs.Entries.{writes_on}
use Rattle.media_model.specs.Sides.{peer_of}
use Rattle.run_model.specs.Events.{Plain, Event, got as event_got, sealed, yielded, Outgoing}
use Rattle.run_model.specs.Listing.{IsIn, NoRepeat}
use Rattle.run_model.specs.Runs.{Happening, on_side}
use Rattle.run_model.specs.Seals.{IsSeal}
use Rattle.run_model.specs.Sending.{number_of, sendings, sending_of, sending_on, first_sendings}
use Rattle.run_model.specs.Whole.{IsSound, IsPlainWrite, Session, session_of, Turns}
use Rattle.media_laws.proofs.RunExactly.{runs_yield_exactly}
use Rattle.media_laws.proofs.Lists.{IsIn-map, IsIn-from_map, IsIn-flat_map}
use Rattle.media_laws.specs.Config.{config_of, rtp_sealing}
use Rattle.media_laws.specs.Headline.{past_of, taken, YieldsExactly, FirstSendingsAreYielded}
use Rattle.media_laws.specs.Opening.{Sealing}
use Rattle.media_laws.specs.Plain.{extensions_of, Carries, as_packet}
use Rattle.media_laws.specs.Play.{AreEntriesOf, wrote, ticked, called, requested, got, Plays}
use Rattle.media_laws.specs.Right.{IsSealOf}
use Rattle.media_laws.proofs.WireLaws.{WireLaws}
use Rattle.media_laws.proofs.Playing.{as_run, Taken, each_step, heads}
use Rattle.media_laws.proofs.Readings.{event_in, sealed_happens}
use Rattle.media_laws.proofs.Sendings.{as_ended, right_kind, plain_is, unpadded_plain, carries_write, all_right, Sent, sent_at, sent_written, sending_there, write_ssrc}
use Rattle.media_laws.proofs.Soundness.{sound_heads, sound_types}
use Rattle.media_laws.proofs.Writes.{writes_fit, type_claimed, type_primary}
use Rattle.media_laws.proofs.Yields.{read_yield}
use Rattle.media_laws.proofs.TxTracks.{numbers}

-- a packet among the events of some entries is yielded among these
yield_read : (setup : Setup) (side : Side) (packet : Packet) (new : List Event) (es : List Entry) → happenings setup es ≡ on_side side new → IsIn (yielded packet) new → IsIn (Yielded side packet) es
yield_read setup side packet new es read i =
    let h : IsIn {X = Happening} (side, yielded packet) (happenings setup es) = subst (IsIn {X = Happening} (side, yielded packet)) (sym read) (IsIn-map (λ (e : Event). (side, e)) (yielded packet) new i) in
    let f = IsIn-from_map (happening_of (extensions_of setup)) (side, yielded packet) es h in
    subst (λ x. IsIn x es) (one f.0 (sym f.2)) f.1
  where
    sealed_other : (s : SealedEntry) (k : Kind) → sealed_event (extensions_of setup) k s ≡ yielded packet → ⊥
    sealed_other s Rtp e = cc
    sealed_other s Rtcp e = cc

    opened_other : (o : OpenedEntry) (k : Kind) → opened_event (extensions_of setup) k o ≡ yielded packet → ⊥
    opened_other o Rtp e = cc
    opened_other o Rtcp e = cc

    one : (x : Entry) → happening_of (extensions_of setup) x ≡ (side, yielded packet) → x ≡ Yielded side packet
    one (Yielded s q) e = let a : s ≡ side = ap (λ (z : Happening). z.0) e in let b : q ≡ packet = (let g = ap (λ (z : Happening). z.1) e in cc g) in (λ k. Yielded (a k) (b k))
    one (Wrote s t w) e = absurd (let g = ap (λ (z : Happening). z.1) e in cc g)
    one (Ticked s t) e = absurd (let g = ap (λ (z : Happening). z.1) e in cc g)
    one (Called s t c) e = absurd (let g = ap (λ (z : Happening). z.1) e in cc g)
    one (Got g) e = absurd (let k = ap (λ (z : Happening). z.1) e in cc k)
    one (Sealed s) e = absurd (sealed_other s s.kind (ap (λ (z : Happening). z.1) e))
    one (Opened o) e = absurd (opened_other o o.kind (ap (λ (z : Happening). z.1) e))

-- writes of one stream and number are one
same_write : (ws : List Writing) → NoRepeat (numbers ws) → (u w : Writing) → IsIn u ws → IsIn w ws → u.number ≡ w.number → u ≡ w
same_write [] apart u w i j e = absurd i
same_write (x ∷ ws) apart u w (inl a) (inl b) e = a ∙ sym b
same_write (x ∷ ws) apart u w (inl a) (inr j) e =
    absurd (apart.0 (subst (λ n. IsIn n (numbers ws)) (sym e ∙ ap (λ (v : Writing). v.number) a) (IsIn-map number_of w ws j)))
same_write (x ∷ ws) apart u w (inr i) (inl b) e =
    absurd (apart.0 (subst (λ n. IsIn n (numbers ws)) (e ∙ ap (λ (v : Writing). v.number) b) (IsIn-map number_of u ws i)))
same_write (x ∷ ws) apart u w (inr i) (inr j) e = same_write ws apart.1 u w i j e

-- the write of which an RTP datagram on a main SSRC is the first sending
record IsFirst (setup : Setup) (side : Side) (L : Outgoing) (past : List Entry) (s : SealedEntry) (w : Writing) : Type 0 where
  pub sent : ℕ × Writing
  pub among : IsIn sent (sendings L.ssrc (past_of setup side past)).sent
  pub is : sent.1 ≡ w
  pub plain : plain_in (extensions_of setup) s.plain ≡ sending_of w

first_of : {seal : Sealing} {setup : Setup} {side : Side} {L : Outgoing} {past : List Entry} (s : SealedEntry) (w : Writing) → Sent setup side L past → IsSealOf seal setup s → IsIn (Sealed s) past → s.side ≡ side → s.kind ≡ Rtp
    → s.ssrc ≡ L.ssrc → IsIn w (writes_on side L.ssrc past) → w.number ≡ s.index → IsFirst setup side L past s w
first_of {seal} {setup} {side} {L} {past} s w sent r there at kind ssrc written number =
    let p : Plain = plain_in (extensions_of setup) s.plain in
    let event : IsIn (sealed s.ssrc s.index p s.bytes) (past_of setup side past) =
    event_in setup side (Sealed s) (sealed s.ssrc s.index p s.bytes) past there (sealed_happens setup s kind ∙ ap (λ (z : Side). (z, sealed s.ssrc s.index p s.bytes)) at) in
    let among : IsIn {X = ℕ × Plain} (s.index, p) (first_sendings L.ssrc (past_of setup side past)) =
    IsIn-flat_map (sending_on L.ssrc) (sealed s.ssrc s.index p s.bytes) (s.index, p) (past_of setup side past) event (sending_there L.ssrc s.ssrc s.index p s.bytes (eq-eqb s.ssrc L.ssrc ssrc) (unpadded_plain s r)) in
    let f = IsIn-from_map (λ (x : ℕ × Writing). (x.1.number, sending_of x.1)) (s.index, p) (sendings L.ssrc (past_of setup side past)).sent (subst (IsIn {X = ℕ × Plain} (s.index, p)) sent.law.sent among) in
    let is : f.0.1 ≡ w = same_write (writes_on side L.ssrc past) sent.distinct f.0.1 w (sent_written sent f.0 f.1) written (sym (ap (λ (z : ℕ × Plain). z.0) f.2) ∙ sym number) in
    record { sent = f.0; among = f.1; is = is; plain = ap (λ (z : ℕ × Plain). z.1) f.2 ∙ ap sending_of is }

module _ {seal : Sealing} {setup : Setup} (wire : WireLaws seal setup) (fine : setup_fault setup ≡ None) (sound : IsSound (config_of seal setup)) where
  -- the datagram is the seal of the write
  seal_of_write : {side : Side} (L : Outgoing) (s : SealedEntry) (w : Writing) → IsSealOf seal setup s → s.side ≡ side → s.ssrc ≡ L.ssrc → w.number ≡ s.index → plain_in (extensions_of setup) s.plain ≡ sending_of w
      → IsSeal (rtp_sealing seal setup side) L.ssrc w.number (sending_of w) s.bytes
  seal_of_write {side} L s w r at ssrc number is = record {
    plain = s.plain;
    reads = ap (λ o. option_map (λ h. read_of h s.plain) o) r.reads ∙ ap (λ z. Some z) (λ k. ((r.source ∙ ssrc) k, (r.low ∙ ap (λ n. n % 65536) (sym number)) k, (sym (plain_is s r) ∙ is) k));
    sealed = (λ k. seal.rtp (sym at k) (sym ssrc k) (number k) s.plain) ∙ sym r.sealed;
  }

  is_plain : {past : List Entry} {a b : Session} {steps : List Step} (side : Side) (L : Outgoing) (s : SealedEntry) (w : Writing) → Plays seal setup a b steps past → IsSealOf seal setup s → s.ssrc ≡ L.ssrc → w.number ≡ s.index
      → IsIn w (writes_on side L.ssrc past) → plain_in (extensions_of setup) s.plain ≡ sending_of w → IsPlainWrite (config_of seal setup) w s.bytes
  is_plain {past} side L s w h r ssrc number written is =
      let fit = writes_fit h side L.ssrc w written in
      let c : Carries (extensions_of setup) s.plain w = carries_write s r w (ssrc ∙ sym (write_ssrc side L.ssrc w past written)) (sym number) is in
      let tag : length (seal.rtp s.side s.ssrc s.index s.plain) ≤ length s.plain + 16 = wire.tag s.side s.ssrc s.index s.plain r.header r.reads in
      let long : length s.bytes ≤ length s.plain + 16 = subst (λ l. length l ≤ length s.plain + 16) (sym r.sealed) tag in
      let total : length s.plain ≤ 160 + length w.payload = wire.long s.plain w c in
      let payload : length w.payload ≤ 1400 = fit.payload in
      record {
        claimed = type_claimed setup w.pt fit.type;
        primary = type_primary setup w.pt (sound_types setup fine) fit.type;
        short = omega (arith, long, total, payload);
      }

  of_got : {past : List Entry} {step : Step} (came : GotEntry) (brought : List Entry) → Taken seal setup past came.side step (Got came ∷ brought) → YieldsExactly setup past (Got came) brought
  of_got {past} came brought t s w L rtp there at kind bytes i ssrc written number =
      let o = t.outcome in
      let peer : Side = peer_of came.side in
      let h = heads (came.side, event_got came.time came.kind came.bytes) (happenings setup brought) came.side o.events o.read in
      let is : o.events ≡ event_got came.time Rtp s.bytes ∷ h.new =
      h.is ∙ ap (λ (z : Happening). z.1 ∷ h.new) (sym h.head) ∙ (λ k. event_got came.time (rtp k) (sym bytes k) ∷ h.new) in
      let turn : Turns (config_of seal setup) came.side (session_of came.side t.a t.b) t.c (event_got came.time Rtp s.bytes ∷ h.new) =
      subst (Turns (config_of seal setup) came.side (session_of came.side t.a t.b) t.c) is o.turn in
      let sent = sent_at sound (as_ended t.plays) peer L i in
      let r : IsSealOf seal setup s = right_kind kind (all_right t.plays s there) in
      let wrote_it : IsIn w (writes_on peer L.ssrc past) = subst (λ q. IsIn w (writes_on peer q past)) ssrc written in
      let f = first_of s w sent r there at kind ssrc wrote_it number in
      let plain = is_plain peer L s w t.plays r ssrc number wrote_it f.plain in
      let law = runs_yield_exactly (config_of seal setup) t.a t.b t.c (happenings setup past) came.side came.time s.bytes h.new sound (sound_heads wire peer) (as_run t.plays) turn L i f.sent f.among
      (subst (λ v. IsPlainWrite (config_of seal setup) v s.bytes) (sym f.is) plain)
      (subst (λ v. IsSeal (rtp_sealing seal setup peer) L.ssrc v.number (sending_of v) s.bytes) (sym f.is) (seal_of_write L s w r at ssrc number f.plain)) in
      let n : f.sent.1.number ≡ s.index = ap (λ (v : Writing). v.number) f.is ∙ number in
      let packet : yielded (as_packet f.sent.1) ≡ yielded (as_packet w) = ap (λ v. yielded (as_packet v)) f.is in
      let Fits = λ (m : ℕ). (widen16 (greatest_of (taken setup came.side L past)) (m % 65536) ≡ m) × (is_fresh (taken setup came.side L past) m ≡ true) in (
        λ j. subst Fits n (law.0 (subst (λ e. IsIn e h.new) (sym packet) (read_yield setup came.side came.side (as_packet w) h.new brought h.tail j).1)),
        λ fits. yield_read setup came.side (as_packet w) h.new brought h.tail (subst (λ e. IsIn e h.new) packet (law.1 (subst Fits (sym n) fits))),
      )

  exactly : {past : List Entry} {side : Side} {step : Step} {first : Entry} {rest : List Entry} → AreEntriesOf seal setup past side step (first ∷ rest)
      → Taken seal setup past side step (first ∷ rest) → YieldsExactly setup past first rest
  exactly (wrote side time w a b c) t = tt
  exactly (ticked side time all right) t = tt
  exactly (called side time sender media payload s is) t = tt
  exactly (requested side time c by quiet) t = tt
  exactly (got came brought at all) t = of_got came brought t

  pub first_sendings_are_yielded : {a b : Session} {steps : List Step} {entries : List Entry} → Plays seal setup a b steps entries → FirstSendingsAreYielded setup entries
  first_sendings_are_yielded h = each_step (YieldsExactly setup) (λ past side step first rest t. exactly t.outcome.are_of t) h
