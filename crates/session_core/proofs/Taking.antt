-- What a datagram makes of a session, where it is taken up of which stream it is.
use Rattle.std.proofs.Common.{◌≡◌, ℕ, Bool, true, false, List, Option, Some, None, refl, sym, ap, subst, ◌∙◌}
use Rattle.std.specs.Prelude.{option_and_then, if◌then◌else◌}
use Rattle.mapping_core.specs.declared.mapping.Mapping.{Mapping}
use Rattle.mapping_core.specs.declared.mapping.Mapping.TheVariants.{Main, Repairs, NewStream, NewMain, NewRepairs, Nowhere}
use Rattle.rtp_wire.specs.declared.header.RtpHeader.{RtpHeader}
use Rattle.rtp_wire.specs.Header.{header_of}
use Rattle.srtp_core.specs.Cipher.{CipherMeaning}
use Rattle.stream_core.specs.Seen.{seen_of}
use Rattle.stream_core.specs.StreamsRecord.{taken_up}
use Rattle.stream_core.specs.Tables.{value_under}
use Rattle.session_core.specs.declared.datagram.Opened.{Opened}
use Rattle.session_core.specs.Mapping.{is_standing, mapped_in, mapping_for, taken_up_for, is_nowhere}
use Rattle.session_core.specs.Receiving.{Opens, OpensRepair, OpensPadding, OpensIn, Unpads, Takes, takes_packet, takes_repair, takes_nothing, Receives, opened, repaired, stays, is_claimed, number_of, after_opened, after_repaired, opening_of, as_repair, as_packet, number_by, opening_number}
use Rattle.session_core.specs.Repairs.{repaired_by, repair_accepted}
use Rattle.session_core.specs.SessionRecord.{SessionRecord, streams_in, with_incoming}

-- of which stream a datagram is, of an SSRC of a table and of another one

pub standing_main : (h : RtpHeader) (r : SessionRecord) → is_standing h.ssrc r.rx r.known.originals ≡ true → mapping_for h r ≡ Main h.ssrc
standing_main h r e = ap (λ b. if b then Main h.ssrc else mapped_in h r) e

pub standing_same : (h : RtpHeader) (r : SessionRecord) → is_standing h.ssrc r.rx r.known.originals ≡ true → taken_up_for h r ≡ r
standing_same h r e = ap (λ m. with_incoming (taken_up h.ssrc m (streams_in r)) r) (standing_main h r e)

pub strange_mapped : (h : RtpHeader) (r : SessionRecord) → is_standing h.ssrc r.rx r.known.originals ≡ false → mapping_for h r ≡ mapped_in h r
strange_mapped h r e = ap (λ b. if b then Main h.ssrc else mapped_in h r) e

nowhere_kept : (ssrc : ℕ) (m : Mapping) (r : SessionRecord) → is_nowhere m ≡ true → with_incoming (taken_up ssrc m (streams_in r)) r ≡ r
nowhere_kept ssrc (Nowhere why) r e = refl
nowhere_kept ssrc (Main main) r e = absurd cc
nowhere_kept ssrc (Repairs main) r e = absurd cc
nowhere_kept ssrc (NewStream s) r e = absurd cc
nowhere_kept ssrc (NewMain c) r e = absurd cc
nowhere_kept ssrc (NewRepairs c) r e = absurd cc

pub nowhere_same : (h : RtpHeader) (r : SessionRecord) → is_nowhere (mapping_for h r) ≡ true → taken_up_for h r ≡ r
nowhere_same h r e = nowhere_kept h.ssrc (mapping_for h r) r e

-- the number under which a datagram opens

same_pair : (x y : ℕ × Bool) → Some x ≡ Some y → x ≡ y
same_pair x y e = cc

some_none : (o : Option (ℕ × Bool)) (x : ℕ × Bool) → o ≡ Some x → o ≡ None → ⊥
some_none o x e f = cc

-- a number that is told in two ways is one
same_number : (o : Option (ℕ × Bool)) (n m : ℕ) (a b : Bool) → o ≡ Some (n, a) → o ≡ Some (m, b) → n ≡ m
same_number o n m a b e f = ap (λ (x : ℕ × Bool). x.0) (same_pair (n, a) (m, b) (sym e ∙ f))

from_repair : (o : Option ℕ) (n : ℕ) (b : Bool) → as_repair o ≡ Some (n, b) → (o ≡ Some n) × (b ≡ true)
from_repair None n b e = absurd cc
from_repair (Some m) n b e =
    let p = same_pair (m, true) (n, b) e in
    (ap (λ (x : ℕ × Bool). Some x.0) p, sym (ap (λ (x : ℕ × Bool). x.1) p))

from_packet : (claimed : Bool) (o : Option ℕ) (n : ℕ) (b : Bool) → as_packet claimed o ≡ Some (n, b) → (claimed ≡ true) × (o ≡ Some n) × (b ≡ false)
from_packet true None n b e = absurd cc
from_packet true (Some m) n b e =
    let p = same_pair (m, false) (n, b) e in
    (refl, ap (λ (x : ℕ × Bool). Some x.0) p, sym (ap (λ (x : ℕ × Bool). x.1) p))
from_packet false o n b e = absurd cc

module _ (u : SessionRecord) (h : RtpHeader) (n : ℕ) (b : Bool) (is : opening_number h u ≡ Some (n, b)) where
  pub number_of_repair : (original : ℕ) → repaired_by u.state.types u.rx u.known.originals h ≡ Some original
      → (option_and_then (repair_accepted u.seen h) (value_under original u.rx) ≡ Some n) × (b ≡ true)
  number_of_repair original e = from_repair (option_and_then (repair_accepted u.seen h) (value_under original u.rx)) n b (sym (ap (number_by h u) e) ∙ is)

  pub number_of_packet : repaired_by u.state.types u.rx u.known.originals h ≡ None
      → (is_claimed u.state.types h ≡ true) × (number_of (seen_of h.ssrc u.seen) u.rx u.probes h.ssrc h.sequence_number ≡ Some n) × (b ≡ false)
  number_of_packet e =
      from_packet (is_claimed u.state.types h) (number_of (seen_of h.ssrc u.seen) u.rx u.probes h.ssrc h.sequence_number) n b (sym (ap (number_by h u) e) ∙ is)

module _ (cipher : CipherMeaning) (u : SessionRecord) (bytes : List ℕ) (h : RtpHeader) where
  packet_number : (n : ℕ) (payload : List ℕ) → Opens cipher u bytes h n payload → opening_number h u ≡ Some (n, false)
  packet_number n payload o = ap (number_by h u) o.original ∙ (λ j. as_packet (o.claimed j) (o.accepts j))

  repair_number : (original n : ℕ) (payload : List ℕ) → OpensRepair cipher u bytes h original n payload → opening_number h u ≡ Some (n, true)
  repair_number original n payload o = ap (number_by h u) o.repairs ∙ ap as_repair o.accepts

  -- it opens under none
  module _ (none : opening_number h u ≡ None) where
    pub no_packet : (n : ℕ) (payload : List ℕ) → Opens cipher u bytes h n payload → ⊥
    no_packet n payload o = absurd (some_none (opening_number h u) (n, false) (packet_number n payload o) none)

    pub no_repair : (original n : ℕ) (payload : List ℕ) → OpensRepair cipher u bytes h original n payload → ⊥
    no_repair original n payload o = absurd (some_none (opening_number h u) (n, true) (repair_number original n payload o) none)

  -- under the one under which it may, it does not
  module _ (m : ℕ) (b : Bool) (one : opening_number h u ≡ Some (m, b)) (closed : (p : List ℕ) → OpensIn cipher u.state.opening h m bytes p → Unpads h p → ⊥) where
    pub sealed_packet : (n : ℕ) (payload : List ℕ) → Opens cipher u bytes h n payload → ⊥
    sealed_packet n payload o =
        let same = same_number (opening_number h u) n m false b (packet_number n payload o) one in
        closed payload (subst (λ (k : ℕ). OpensIn cipher u.state.opening h k bytes payload) same o.opens) o.unpads

    pub sealed_repair : (original n : ℕ) (payload : List ℕ) → OpensRepair cipher u bytes h original n payload → ⊥
    sealed_repair original n payload o =
        let same = same_number (opening_number h u) n m true b (repair_number original n payload o) one in
        closed payload (subst (λ (k : ℕ). OpensIn cipher u.state.opening h k bytes payload) same o.opens) o.unpads

-- what bytes make of a session

module _ (cipher : CipherMeaning) (r : SessionRecord) (bytes : List ℕ) where
  -- they are no header
  pub stays_headless : (now : ℕ) → header_of r.state.transport.exts bytes ≡ None → Receives cipher r bytes now r None
  stays_headless now none =
      stays (λ h n payload o. absurd (cc (none, o.reads))) (λ h original n payload o. absurd (cc (none, o.reads))) (λ h n payload o. absurd (cc (none, o.reads)))

  module _ (g : RtpHeader) (reads : header_of r.state.transport.exts bytes ≡ Some g) where
    same_header : (h : RtpHeader) → header_of r.state.transport.exts bytes ≡ Some h → g ≡ h
    same_header h e = cc

    -- they do not open under this header
    pub stays_closed : (now : ℕ) → ((n : ℕ) (payload : List ℕ) → Opens cipher (taken_up_for g r) bytes g n payload → ⊥)
        → ((original n : ℕ) (payload : List ℕ) → OpensRepair cipher (taken_up_for g r) bytes g original n payload → ⊥)
        → ((n : ℕ) (payload : List ℕ) → OpensPadding cipher r bytes g n payload → ⊥) → Receives cipher r bytes now r None
    stays_closed now no_packet no_repair no_padding =
        stays
        (λ h n payload o. no_packet n payload (subst (λ (x : RtpHeader). Opens cipher (taken_up_for x r) bytes x n payload) (sym (same_header h o.reads)) o))
        (λ h original n payload o. no_repair original n payload (subst (λ (x : RtpHeader). OpensRepair cipher (taken_up_for x r) bytes x original n payload) (sym (same_header h o.reads)) o))
        (λ h n payload o. no_padding n payload (subst (λ (x : RtpHeader). OpensPadding cipher r bytes x n payload) (sym (same_header h o.reads)) o))

    -- their SSRC is one of a table
    module _ (stands : is_standing g.ssrc r.rx r.known.originals ≡ true) where
      kept : (h : RtpHeader) → header_of r.state.transport.exts bytes ≡ Some h → taken_up_for h r ≡ r
      kept h e = standing_same h r (subst (λ (x : RtpHeader). is_standing x.ssrc r.rx r.known.originals ≡ true) (same_header h e) stands)

      pub received_standing : (now : ℕ) (after : SessionRecord) (o : Option Opened) → Takes cipher r bytes now after o → Receives cipher r bytes now after o
      received_standing now _ _ (takes_packet h n payload o) =
          let same = kept h o.reads in
          subst (λ (u : SessionRecord). Receives cipher r bytes now (after_opened now h n payload u) (Some (opening_of bytes h n payload))) same
          (opened h n payload (subst (λ (u : SessionRecord). Opens cipher u bytes h n payload) (sym same) o))
      received_standing now _ _ (takes_repair h original n payload o) =
          let same = kept h o.reads in
          subst (λ (u : SessionRecord). Receives cipher r bytes now (after_repaired now h original n payload u) (Some (opening_of bytes h n payload))) same
          (repaired h original n payload (subst (λ (u : SessionRecord). OpensRepair cipher u bytes h original n payload) (sym same) o))
      received_standing now _ _ (takes_nothing no_packet no_repair) =
          let same = kept g reads in
          stays_closed now
          (λ n payload o. no_packet g n payload (subst (λ (u : SessionRecord). Opens cipher u bytes g n payload) same o))
          (λ original n payload o. no_repair g original n payload (subst (λ (u : SessionRecord). OpensRepair cipher u bytes g original n payload) same o))
          (λ n payload o. (let somewhere = ap is_nowhere (standing_main g r stands) in absurd (cc (somewhere, o.unknown))))
