-- Laws of sealed datagrams and of initial values.
use Rattle.std.specs.Prelude.{ℕ, ◌≡◌, ◌≤◌, ◌<◌, ◌+◌, ◌^◌, Bool, List, length, take, drop}
use Rattle.srtp_core.specs.Cipher.{CipherMeaning}
use Rattle.srtp_core.specs.Keys.{SessionKeys, tag_len}
use Rattle.srtp_core.specs.Seals.{rtp_iv, rtcp_iv, sealed_rtp, OpensTo}
use Rattle.srtp_core.specs.RtcpSeals.{sealed_rtcp, stated_bit, stated_index, RtcpOpensTo}
use Rattle.srtp_core.specs.declared.profile.SrtpProfile.{SrtpProfile}
use Rattle.rtp_base.specs.declared.number.TheConstants.{NUMBER_LIMIT}
use Rattle.srtp_core.specs.declared.TheConstants.{SRTP_OVERHEAD}
use Rattle.srtp_core.specs.declared.context.TheConstants.{MAX_DATAGRAM_LEN, SRTCP_INDEX_LIMIT}
use Rattle.srtp_core.specs.declared.srtcp.TheConstants.{HEADER_LEN, WORD_LEN}

-- no two datagrams under one salt have one initial value: RTP indices are below 2^48, SRTCP indices below 2^31
abbrev pub RtpIvsApart : Type 0
RtpIvsApart =
    (profile : SrtpProfile) (salt : List ℕ) (s t i j : ℕ) → s < 2 ^ 32 → t < 2 ^ 32 → i < NUMBER_LIMIT → j < NUMBER_LIMIT
    → rtp_iv profile salt s i ≡ rtp_iv profile salt t j → (s ≡ t) × (i ≡ j)

abbrev pub RtcpIvsApart : Type 0
RtcpIvsApart =
    (profile : SrtpProfile) (salt : List ℕ) (s t i j : ℕ) → s < 2 ^ 32 → t < 2 ^ 32 → i < SRTCP_INDEX_LIMIT → j < SRTCP_INDEX_LIMIT
    → rtcp_iv profile salt s i ≡ rtcp_iv profile salt t j → (s ≡ t) × (i ≡ j)

-- under one key, SSRC and index no two datagrams are sealed alike
abbrev pub RtpSealsApart : CipherMeaning → Type 0
RtpSealsApart cipher =
    (profile : SrtpProfile) (keys : SessionKeys) (ssrc index n : ℕ) (p q : List ℕ) → n ≤ length p → n ≤ length q
    → sealed_rtp cipher profile keys ssrc index n p ≡ sealed_rtp cipher profile keys ssrc index n q → p ≡ q

-- a sealed datagram is longer than the plain one by its tag
abbrev pub RtpSealIsLonger : CipherMeaning → Type 0
RtpSealIsLonger cipher =
    (profile : SrtpProfile) (keys : SessionKeys) (ssrc index n : ℕ) (plain : List ℕ) → n ≤ length plain
    → length (sealed_rtp cipher profile keys ssrc index n plain) ≡ length plain + tag_len profile

-- a datagram opens to one payload at most
abbrev pub RtpOpensOnce : CipherMeaning → Type 0
RtpOpensOnce cipher =
    (profile : SrtpProfile) (keys : SessionKeys) (ssrc index n : ℕ) (bytes p q : List ℕ)
    → OpensTo cipher profile keys ssrc index n bytes p → OpensTo cipher profile keys ssrc index n bytes q → p ≡ q

-- what was sealed opens to its payload
abbrev pub RtpOpensSealed : CipherMeaning → Type 0
RtpOpensSealed cipher =
    (profile : SrtpProfile) (keys : SessionKeys) (ssrc index n : ℕ) (plain : List ℕ) → n ≤ length plain
    → let bytes = sealed_rtp cipher profile keys ssrc index n plain in
    length bytes ≤ MAX_DATAGRAM_LEN → OpensTo cipher profile keys ssrc index n bytes (drop n plain)

-- a sealed datagram begins with its header, is no shorter than the plain one, and at most 16 bytes longer
abbrev pub RtpSealKeepsHeader : CipherMeaning → Type 0
RtpSealKeepsHeader cipher =
    (profile : SrtpProfile) (keys : SessionKeys) (ssrc index n : ℕ) (plain : List ℕ) → n ≤ length plain
    → let bytes = sealed_rtp cipher profile keys ssrc index n plain in
    (take n bytes ≡ take n plain) × (length plain ≤ length bytes) × (length bytes ≤ length plain + SRTP_OVERHEAD)

-- an SRTCP datagram opens to one packet at most
abbrev pub RtcpOpensOnce : CipherMeaning → Type 0
RtcpOpensOnce cipher =
    (profile : SrtpProfile) (keys : SessionKeys) (bytes p q : List ℕ)
    → RtcpOpensTo cipher profile keys bytes p → RtcpOpensTo cipher profile keys bytes q → p ≡ q

-- an SRTCP datagram that was sealed states its E bit and its index
abbrev pub RtcpStates : CipherMeaning → Type 0
RtcpStates cipher =
    (profile : SrtpProfile) (keys : SessionKeys) (bit : Bool) (index : ℕ) (plain : List ℕ) → index < SRTCP_INDEX_LIMIT
    → let bytes = sealed_rtcp cipher profile keys bit index plain in
    (stated_bit profile bytes ≡ bit) × (stated_index profile bytes ≡ index)

-- and opens to its packet
abbrev pub RtcpOpensSealed : CipherMeaning → Type 0
RtcpOpensSealed cipher =
    (profile : SrtpProfile) (keys : SessionKeys) (bit : Bool) (index : ℕ) (plain : List ℕ) → index < SRTCP_INDEX_LIMIT → HEADER_LEN ≤ length plain
    → RtcpOpensTo cipher profile keys (sealed_rtcp cipher profile keys bit index plain) plain

-- a sealed SRTCP datagram begins with the first 8 bytes of its packet, and is longer by its word and its tag
abbrev pub RtcpSealKeepsHeader : CipherMeaning → Type 0
RtcpSealKeepsHeader cipher =
    (profile : SrtpProfile) (keys : SessionKeys) (bit : Bool) (index : ℕ) (plain : List ℕ) → HEADER_LEN ≤ length plain
    → let bytes = sealed_rtcp cipher profile keys bit index plain in
    (take HEADER_LEN bytes ≡ take HEADER_LEN plain) × (length bytes ≡ length plain + WORD_LEN + tag_len profile)
