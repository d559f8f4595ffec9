-- Bytes that do not open.
use Rattle.std.proofs.Common.{◌≡◌, ℕ, true, false, List, Some, None, sym, ap, subst, ◌∙◌}
use Rattle.std.specs.Prelude.{option_and_then}
use Rattle.stream_core.specs.Tables.{value_under}
use Rattle.session_core.specs.Repairs.{repaired_by, repair_accepted}
use Rattle.rtp_wire.specs.declared.header.RtpHeader.{RtpHeader}
use Rattle.rtp_wire.specs.Header.{header_of}
use Rattle.srtp_core.specs.Cipher.{CipherMeaning}
use Rattle.session_core.specs.SessionRecord.{SessionRecord}
use Rattle.session_core.specs.Receiving.{Opens, OpensRepair, OpensIn, Unpads, is_claimed, number_of}
use Rattle.stream_core.specs.Seen.{seen_of}

module _ (cipher : CipherMeaning) (r : SessionRecord) (bytes : List ℕ) where
  abbrev pub Stays : Type 0
  Stays = (h : RtpHeader) (n : ℕ) (payload : List ℕ) → Opens cipher r bytes h n payload → ⊥

  abbrev pub StaysRepair : Type 0
  StaysRepair = (h : RtpHeader) (original n : ℕ) (payload : List ℕ) → OpensRepair cipher r bytes h original n payload → ⊥

  module _ (g : RtpHeader) (reads : header_of r.state.transport.exts bytes ≡ Some g) where
    same : (h : RtpHeader) → header_of r.state.transport.exts bytes ≡ Some h → g ≡ h
    same h e = cc

    pub stays_unclaimed : is_claimed r.state.types g ≡ false → Stays
    stays_unclaimed none h n payload o =
        let e = same h o.reads in
        let yes : is_claimed r.state.types g ≡ true = ap (is_claimed r.state.types) e ∙ o.claimed in
        absurd cc

    pub stays_unaccepted : number_of (seen_of g.ssrc r.seen) r.rx r.probes g.ssrc g.sequence_number ≡ None → Stays
    stays_unaccepted none h n payload o =
        let e = same h o.reads in
        let other : number_of (seen_of g.ssrc r.seen) r.rx r.probes g.ssrc g.sequence_number ≡ Some n = ap (λ (x : RtpHeader). number_of (seen_of x.ssrc r.seen) r.rx r.probes x.ssrc x.sequence_number) e ∙ o.accepts in
        absurd cc

    pub stays_sealed : (m : ℕ) → number_of (seen_of g.ssrc r.seen) r.rx r.probes g.ssrc g.sequence_number ≡ Some m
        → ((p : List ℕ) → OpensIn cipher r.state.opening g m bytes p → Unpads g p → ⊥) → Stays
    stays_sealed m accepts none h n payload o =
        let e = same h o.reads in
        let other : number_of (seen_of g.ssrc r.seen) r.rx r.probes g.ssrc g.sequence_number ≡ Some n = ap (λ (x : RtpHeader). number_of (seen_of x.ssrc r.seen) r.rx r.probes x.ssrc x.sequence_number) e ∙ o.accepts in
        let is : n ≡ m = cc in
        none payload
        (subst (λ k. OpensIn cipher r.state.opening g k bytes payload) is (subst (λ (x : RtpHeader). OpensIn cipher r.state.opening x n bytes payload) (sym e) o.opens))
        (subst (λ (x : RtpHeader). Unpads x payload) (sym e) o.unpads)

    -- a repair is no packet, and a packet no repair
    pub repair_only : (original : ℕ) → repaired_by r.state.types r.rx r.known.originals g ≡ Some original → Stays
    repair_only original is h n payload o =
        let e = same h o.reads in
        let none : repaired_by r.state.types r.rx r.known.originals g ≡ None = ap (repaired_by r.state.types r.rx r.known.originals) e ∙ o.original in
        absurd cc

    pub packet_only : repaired_by r.state.types r.rx r.known.originals g ≡ None → StaysRepair
    packet_only none h original n payload o =
        let e = same h o.reads in
        let some : repaired_by r.state.types r.rx r.known.originals g ≡ Some original = ap (repaired_by r.state.types r.rx r.known.originals) e ∙ o.repairs in
        absurd cc

    module _ (original : ℕ) (repairs : repaired_by r.state.types r.rx r.known.originals g ≡ Some original) where
      same_original : (h : RtpHeader) (other n : ℕ) (payload : List ℕ) → OpensRepair cipher r bytes h other n payload → original ≡ other
      same_original h other n payload o =
          let e = same h o.reads in
          let some : repaired_by r.state.types r.rx r.known.originals g ≡ Some other = ap (repaired_by r.state.types r.rx r.known.originals) e ∙ o.repairs in
          cc

      same_number : (h : RtpHeader) (other n : ℕ) (payload : List ℕ) → OpensRepair cipher r bytes h other n payload
          → option_and_then (repair_accepted r.seen g) (value_under original r.rx) ≡ Some n
      same_number h other n payload o =
          ap (λ (x : RtpHeader). option_and_then (repair_accepted r.seen x) (value_under original r.rx)) (same h o.reads)
          ∙ ap (λ k. option_and_then (repair_accepted r.seen h) (value_under k r.rx)) (same_original h other n payload o) ∙ o.accepts

      pub repair_unaccepted : option_and_then (repair_accepted r.seen g) (value_under original r.rx) ≡ None → StaysRepair
      repair_unaccepted none h other n payload o = let some = same_number h other n payload o in absurd cc

      pub repair_sealed : (m : ℕ) → option_and_then (repair_accepted r.seen g) (value_under original r.rx) ≡ Some m
          → ((p : List ℕ) → OpensIn cipher r.state.opening g m bytes p → Unpads g p → ⊥) → StaysRepair
      repair_sealed m accepts none h other n payload o =
          let e = same h o.reads in
          let some = same_number h other n payload o in
          let is : n ≡ m = cc in
          none payload
          (subst (λ k. OpensIn cipher r.state.opening g k bytes payload) is (subst (λ (x : RtpHeader). OpensIn cipher r.state.opening x n bytes payload) (sym e) o.opens))
          (subst (λ (x : RtpHeader). Unpads x payload) (sym e) o.unpads)
