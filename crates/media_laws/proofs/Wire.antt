-- What headers and seals give to the laws of a run.
use Rattle.std.proofs.Common.{◌≡◌, ℕ, ◌+◌, ◌≤◌, List, [], length, take, Some, refl, sym, ap, ◌∙◌, subst, arith}
use Rattle.std.proofs.lemmas.List.{length-append}
use Rattle.rtp_wire.specs.declared.extension.ExtensionMap.{ExtensionMap}
use Rattle.rtp_wire.specs.declared.header.RtpHeader.{RtpHeader}
use Rattle.rtp_wire.specs.Header.{header_bytes, wire_form}
use Rattle.rtp_wire.specs.HeaderLaws.{ReadsOwnBytes, HasFewBytes}
use Rattle.srtp_core.specs.Cipher.{CipherMeaning}
use Rattle.srtp_core.specs.Keys.{session_keys}
use Rattle.srtp_core.specs.Laws.{RtpSealsApart, RtpSealKeepsHeader}
use Rattle.srtp_core.specs.Seals.{sealed_rtp}
use Rattle.run_model.specs.Transcripts.{len_in}
use Rattle.media_model.specs.declared.entry.Side.{Side}
use Rattle.media_model.specs.declared.entry.Write.{Write as Writing}
use Rattle.media_model.specs.declared.setup.Setup.{Setup}
use Rattle.media_model.specs.Setup.{material_of}
use Rattle.media_laws.specs.Keys.{is_left, sealing_of}
use Rattle.media_laws.specs.Plain.{extensions_of, read_header, Carries}
use Rattle.media_laws.proofs.WireLaws.{WireLaws}

wire_count : (exts : ExtensionMap) (h : RtpHeader) → (wire_form exts h).csrc_count ≡ h.csrc_count
unfolding wire_form
wire_count exts h = refl

is_short : HasFewBytes → (setup : Setup) (plain : List ℕ) (w : Writing) → Carries (extensions_of setup) plain w → length plain ≤ 160 + length w.payload
is_short few setup plain w c =
    let exts : ExtensionMap = extensions_of setup in
    let count : c.sealed.csrc_count ≡ c.header.csrc_count = sym (wire_count exts c.sealed) ∙ ap (λ (h : RtpHeader). h.csrc_count) (sym c.wire) in
    let at_most = c.few in
    let all : length plain ≡ length (header_bytes exts c.sealed) + length w.payload = ap length c.written ∙ length-append (header_bytes exts c.sealed) w.payload in
    let short : length (header_bytes exts c.sealed) ≤ 160 = few exts c.sealed (omega (arith, count, at_most)) in
    omega (arith, all, short)

module _ (cipher : CipherMeaning) (setup : Setup) where
  abbrev sealing_with : Side → ℕ → ℕ → ℕ → List ℕ → List ℕ
  sealing_with side ssrc index n plain = sealed_rtp cipher setup.profile (session_keys cipher setup.profile (material_of setup) (is_left side)) ssrc index n plain

  -- the length of the header that is read
  len_is : (plain : List ℕ) (h : RtpHeader) → read_header setup plain ≡ Some h → h.header_len ≡ len_in (extensions_of setup) plain
  len_is plain h e = rw e refl

  pub wire_laws : ReadsOwnBytes → HasFewBytes → RtpSealsApart cipher → RtpSealKeepsHeader cipher → WireLaws (sealing_of cipher setup) setup
  wire_laws own few apart keeps = record {
    by_front = λ bytes rest h e. (own (extensions_of setup) bytes rest h e).0;
    within = λ bytes h e. (own (extensions_of setup) bytes [] h e).2;
    long = is_short few setup;
    front = λ side ssrc index plain h e.
        subst (λ n. take h.header_len (sealing_with side ssrc index n plain) ≡ take h.header_len plain) (len_is plain h e)
        (keeps _ _ ssrc index h.header_len plain (own (extensions_of setup) plain [] h e).2).0;
    tag = λ side ssrc index plain h e.
        subst (λ n. length (sealing_with side ssrc index n plain) ≤ length plain + 16) (len_is plain h e)
        (keeps _ _ ssrc index h.header_len plain (own (extensions_of setup) plain [] h e).2).2;
    apart = λ side ssrc index p q h ep eq e.
        apart _ _ ssrc index h.header_len p q (own (extensions_of setup) p [] h ep).2 (own (extensions_of setup) q [] h eq).2
        (ap (λ n. sealing_with side ssrc index n p) (len_is p h ep) ∙ e ∙ ap (λ n. sealing_with side ssrc index n q) (sym (len_is q h eq)));
  }
