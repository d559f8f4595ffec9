-- What opens in a session is a seal of the plain datagram that it opens to, and a seal opens.
use Rattle.std.proofs.Common.{◌≡◌, ℕ, ◌%◌, ◌≤◌, List, [], ◌++◌, length, take, drop, Option, Some, None, refl, sym, ap, ◌∙◌, append_assoc}
use Rattle.std.specs.Prelude.{unwrap_or}
use Rattle.std.specs.Option.{option_map}
use Rattle.std.proofs.lemmas.List.{take-append-drop, length-take-le, take_at, drop_at}
use Rattle.rtp_wire.specs.declared.extension.ExtensionMap.{ExtensionMap}
use Rattle.rtp_wire.specs.declared.header.RtpHeader.{RtpHeader}
use Rattle.rtp_wire.specs.Header.{header_of, csrc_of}
use Rattle.rtp_wire.specs.HeaderLaws.{ReadsOwnBytes}
use Rattle.srtp_core.specs.Cipher.{CipherMeaning}
use Rattle.srtp_core.specs.Contexts.{SrtpState}
use Rattle.srtp_core.specs.Keys.{SessionKeys}
use Rattle.srtp_core.specs.Seals.{sealed_rtp, OpensTo}
use Rattle.srtp_core.specs.declared.profile.SrtpProfile.{SrtpProfile}
use Rattle.srtp_core.specs.declared.profile.SrtpProfile.TheVariants.{Aes128CmSha1_80, AeadAes128Gcm, AeadAes256Gcm}
use Rattle.run_model.specs.Events.{Plain}
use Rattle.run_model.specs.Seals.{IsSeal}
use Rattle.session_turns.specs.Reading.{plain_of, read_of, len_in, plain_in, no_plain, sealing_of}

-- a seal begins with the header
pub record BeginsWith (front bytes : List ℕ) : Type 0 where
  pub rest : List ℕ
  pub is : bytes ≡ front ++ rest

in_three : (a b c : List ℕ) → BeginsWith a ((a ++ b) ++ c)
in_three a b c = record { rest = b ++ c; is = append_assoc a b c }

in_two : (a b : List ℕ) → BeginsWith a (a ++ b)
in_two a b = record { rest = b; is = refl }

seal_begins : (cipher : CipherMeaning) (profile : SrtpProfile) (keys : SessionKeys) (ssrc index n : ℕ) (plain : List ℕ)
    → BeginsWith (take n plain) (sealed_rtp cipher profile keys ssrc index n plain)
unfolding sealed_rtp
seal_begins cipher Aes128CmSha1_80 keys ssrc index n plain = in_three (take n plain) _ _
seal_begins cipher AeadAes128Gcm keys ssrc index n plain = in_two (take n plain) _
seal_begins cipher AeadAes256Gcm keys ssrc index n plain = in_two (take n plain) _

-- a header with what stands behind it
abbrev pub plain_by : RtpHeader → List ℕ → Plain
plain_by h payload = record { pt = h.payload_type; padded = h.has_padding; marker = h.marker; time = h.timestamp; csrc = csrc_of h; payload = payload }

module _ (cipher : CipherMeaning) (exts : ExtensionMap) (other : SrtpState) (own : ReadsOwnBytes) (bytes : List ℕ) where
  abbrev opens_to : RtpHeader → ℕ → List ℕ → Type 0
  opens_to h n payload = OpensTo cipher other.profile other.keys h.ssrc n h.header_len bytes payload

  module _ (h : RtpHeader) (payload : List ℕ) (reads : header_of exts bytes ≡ Some h) where
    abbrev plain : List ℕ
    plain = take h.header_len bytes ++ payload

    again : header_of exts plain ≡ Some h
    again = (own exts bytes payload h reads).0

    behind : drop h.header_len plain ≡ payload
    behind = drop_at (take h.header_len bytes) payload h.header_len (length-take-le h.header_len bytes (own exts bytes [] h reads).2)

    len_is : len_in exts plain ≡ h.header_len
    len_is = ap (λ (o : Option RtpHeader). unwrap_or (option_map (λ (g : RtpHeader). g.header_len) o) 0) again

    pub plain_is : plain_in exts plain ≡ plain_by h payload
    plain_is = ap (λ (o : Option RtpHeader). unwrap_or (option_map (λ (g : RtpHeader). plain_of g plain) o) no_plain) again ∙ ap (plain_by h) behind

    pub is_seal : (n : ℕ) → h.sequence_number ≡ n % 65536 → opens_to h n payload → IsSeal (sealing_of cipher exts other) h.ssrc n (plain_by h payload) bytes
    is_seal n low to = record {
      plain = plain;
      reads = ap (λ (o : Option RtpHeader). option_map (λ (g : RtpHeader). read_of g plain) o) again ∙ ap (λ (l : List ℕ). Some (h.ssrc, h.sequence_number, plain_by h l)) behind
          ∙ ap (λ (m : ℕ). Some (h.ssrc, m, plain_by h payload)) low;
      sealed = ap (λ (m : ℕ). sealed_rtp cipher other.profile other.keys h.ssrc n m plain) len_is ∙ to.seal;
    }

  -- what a seal opens to
  pub record OpensSo (ssrc n : ℕ) (p : Plain) : Type 0 where
    pub header : RtpHeader
    pub payload : List ℕ
    pub reads : header_of exts bytes ≡ Some header
    pub source : header.ssrc ≡ ssrc
    pub low : header.sequence_number ≡ n % 65536
    pub is : plain_by header payload ≡ p
    pub to : opens_to header n payload

  from_reading : (ssrc low : ℕ) (p : Plain) (plain : List ℕ) (o : Option RtpHeader) → option_map (λ (g : RtpHeader). read_of g plain) o ≡ Some (ssrc, low, p)
      → (h : RtpHeader) × (o ≡ Some h) × (h.ssrc ≡ ssrc) × (h.sequence_number ≡ low) × (plain_by h (drop h.header_len plain) ≡ p)
  from_reading ssrc low p plain None e = absurd cc
  from_reading ssrc low p plain (Some h) e =
      let same : read_of h plain ≡ (ssrc, low, p) = cc in
      (h, refl, ap (λ (t : ℕ × ℕ × Plain). t.0) same, ap (λ (t : ℕ × ℕ × Plain). t.1) same, ap (λ (t : ℕ × ℕ × Plain). t.2) same)

  pub seal_opens : (ssrc n : ℕ) (p : Plain) → length bytes ≤ 2000 → IsSeal (sealing_of cipher exts other) ssrc n p bytes → OpensSo ssrc n p
  seal_opens ssrc n p short is =
      let found = from_reading ssrc (n % 65536) p is.plain (header_of exts is.plain) is.reads in
      let h : RtpHeader = found.0 in
      let long : h.header_len ≤ length is.plain = (own exts is.plain [] h found.1).2 in
      let len : len_in exts is.plain ≡ h.header_len = ap (λ (o : Option RtpHeader). unwrap_or (option_map (λ (g : RtpHeader). g.header_len) o) 0) found.1 in
      let sealed : sealed_rtp cipher other.profile other.keys ssrc n h.header_len is.plain ≡ bytes =
      ap (λ (m : ℕ). sealed_rtp cipher other.profile other.keys ssrc n m is.plain) (sym len) ∙ is.sealed in
      let begins = seal_begins cipher other.profile other.keys ssrc n h.header_len is.plain in
      let whole : bytes ≡ take h.header_len is.plain ++ begins.rest = sym sealed ∙ begins.is in
      let front : take h.header_len bytes ≡ take h.header_len is.plain =
      ap (take h.header_len) whole ∙ take_at (take h.header_len is.plain) begins.rest h.header_len (length-take-le h.header_len is.plain long) in
      let reads : header_of exts bytes ≡ Some h = ap (header_of exts) whole ∙ (own exts is.plain begins.rest h found.1).0 in
      let same : take h.header_len bytes ++ drop h.header_len is.plain ≡ is.plain = ap (λ (l : List ℕ). l ++ drop h.header_len is.plain) front ∙ take-append-drop h.header_len is.plain in record {
        header = h;
        payload = drop h.header_len is.plain;
        reads = reads;
        source = found.2;
        low = found.3;
        is = found.4;
        to = record {
          within = short;
          header = (own exts bytes [] h reads).2;
          seal = ap (λ (l : List ℕ). sealed_rtp cipher other.profile other.keys h.ssrc n h.header_len l) same
              ∙ ap (λ (m : ℕ). sealed_rtp cipher other.profile other.keys m n h.header_len is.plain) found.2 ∙ sealed;
        };
      }
