-- RTCP under counter mode: the word stands before the tag of 10 bytes.
use Rattle.std.specs.Prelude.{ℕ, ◌≡◌, ◌≤◌, ◌-◌, ◌%◌, nat_le, List, length, take, drop}
use Rattle.rtp_base.specs.Wire.{word_at}
use Rattle.srtp_core.specs.Cipher.{CipherMeaning}
use Rattle.srtp_core.specs.RtcpSeals.{cm_sealed_rtcp}
use Rattle.srtp_core.specs.declared.aes_128_cm_sha1_80.TheConstants.{RTCP_WORD_PLACE}
use Rattle.srtp_core.specs.declared.srtcp.TheConstants.{E_BIT, HEADER_LEN}

pub record CmRtcpOpens (cipher : CipherMeaning) (key authentication salt bytes plain : List ℕ) : Type 0 where
  pub header : HEADER_LEN ≤ length plain
  pub seal : let word = word_at bytes (length bytes - RTCP_WORD_PLACE) in
      cm_sealed_rtcp cipher key authentication salt (nat_le E_BIT word) (word % E_BIT) (take HEADER_LEN plain) (drop HEADER_LEN plain) ≡ bytes
