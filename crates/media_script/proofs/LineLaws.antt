-- What a setup line says is how it is spelled, and the other way round.
use Rattle.std.proofs.Common.{◌≡◌, ℕ, ◌^◌, ◌<◌, ◌≤◌, ◌++◌, lit<, lit≤, Bool, true, false, List, [], ◌∷◌, length, Option, Some, None, refl, ap, ◌∙◌, arith}
use Rattle.std.specs.Prelude.{codes, is_some}
use Rattle.std.specs.Fmt.{decimal}
use Rattle.std.proofs.lemmas.Bool.Decides.{nat_tests}
use Rattle.std.proofs.lemmas.List.{append-nil, length-append}
use Rattle.media_model.specs.declared.setup.Codec.{Codec}
use Rattle.media_model.specs.declared.setup.PayloadType.{PayloadType}
use Rattle.media_script.specs.declared.setup_line.SetupLine.{SetupLine}
use Rattle.media_script.specs.declared.setup_line.SetupLine.TheVariants as line
use Rattle.media_script.specs.Grammar.{cipher_line, profile_line, key_line, unix_line, mtu_line, pause_line, reports_line, rtcp_line, local_line, ext_line, named_type, behind, with_type, with_flag, done, is_long, type_line, media_line, stream_line, start_line, cache_line, no_other, side_kinds, side_line_of, named_kinds, named_line_of, number_kinds, number_line_of, setup_kinds, setup_line_of, in_few}
use Rattle.media_script.specs.Names.{cipher_text, codec_text, extension_text, media_kind_text, profile_text}
use Rattle.media_script.specs.Spelling.{IsNamedType, flag_words, IsSetupLine}
use Rattle.media_script.specs.Words.{type_behind, ◌>>=◌, ciphers, profiles, codecs, media_kinds, extensions}
use Rattle.media_script.proofs.WordLaws.{number_spelled, number_again, millis_spelled, millis_again, at_most_spelled, at_most_again, narrow_spelled, narrow_again, side_spelled, side_again, cipher_again, profile_again, key_spelled, key_again, extension_again, codec_again, media_kind_again, rate_spelled, rate_again, named_type_again, name_spelled, name_again, optional_32_spelled, rtx_again, cap_again, rid_spelled, rid_again, one_spelled}
use Rattle.media_script.proofs.KindLaws.{Tells, done_tells, then_tells, named_type_tells, flag_tells, look_up_tells, none_tells}

-- the words behind this first word
abbrev Behind : List ℕ → List (List ℕ) → SetupLine → Type 0
Behind text words said = IsSetupLine (text ∷ words) said

cipher_tells : Tells cipher_line (Behind (codes "cipher"))
cipher_tells = then_tells (one_spelled cipher_text ciphers) (λ w cipher is. done_tells (λ i. codes "cipher" ∷ is i ∷ []))

profile_tells : Tells profile_line (Behind (codes "profile"))
profile_tells = then_tells (one_spelled profile_text profiles) (λ w profile is. done_tells (λ i. codes "profile" ∷ is i ∷ []))

key_tells : Tells key_line (Behind (codes "key"))
key_tells = then_tells key_spelled (λ w key is. done_tells (w, is, refl))

unix_tells : Tells unix_line (Behind (codes "unix"))
unix_tells = then_tells number_spelled (λ w secs is. done_tells (is.1, λ i. codes "unix" ∷ is.0 i ∷ []))

mtu_tells : Tells mtu_line (Behind (codes "mtu"))
mtu_tells =
    then_tells number_spelled (λ t target is. then_tells number_spelled (λ w warn has.
    done_tells (is.1, has.1, λ i. codes "mtu" ∷ is.0 i ∷ has.0 i ∷ [])))

pause_tells : Tells pause_line (Behind (codes "pause"))
pause_tells = then_tells millis_spelled (λ w threshold is. done_tells (is.0, is.2, is.3, λ i. codes "pause" ∷ is.1 i ∷ []))

reports_tells : Tells reports_line (Behind (codes "reports"))
reports_tells =
    then_tells millis_spelled (λ a audio is. then_tells millis_spelled (λ v video has.
    done_tells (is.0, has.0, is.2, is.3, has.2, has.3, λ i. codes "reports" ∷ is.1 i ∷ has.1 i ∷ [])))

rtcp_tells : Tells rtcp_line (Behind (codes "rtcp"))
rtcp_tells =
    then_tells side_spelled (λ s side of. then_tells (at_most_spelled (2 ^ 31)) (λ w index is. done_tells (is.1, λ i. codes "rtcp" ∷ of i ∷ is.0 i ∷ [])))

local_tells : Tells local_line (Behind (codes "local"))
local_tells =
    then_tells side_spelled (λ s side of. then_tells (narrow_spelled (2 ^ 32)) (λ n ssrc is.
    done_tells (is.1, λ i. codes "local" ∷ of i ∷ is.0 i ∷ [])))

ext_tells : Tells ext_line (Behind (codes "ext"))
ext_tells =
    then_tells (narrow_spelled (2 ^ 8)) (λ n id is. then_tells (one_spelled extension_text extensions) (λ e extension has.
    done_tells (is.1, λ i. codes "ext" ∷ is.0 i ∷ has i ∷ [])))

-- the line of a type with these options
abbrev type_with : ℕ → Codec → ℕ → Option ℕ → Option ℕ → Bool → Bool → SetupLine
type_with pt codec rate rtx red pli fir = line.Type (record { pt = pt; codec = codec; rate = rate; rtx = rtx; red = red; pli = pli; fir = fir })

type_tells : Tells type_line (Behind (codes "type"))
type_tells =
    then_tells (narrow_spelled (2 ^ 8)) (λ p pt is. then_tells (one_spelled codec_text codecs) (λ c codec has. then_tells rate_spelled (λ w rate goes.
    named_type_tells (codes "rtx=") (λ r rtx again. named_type_tells (codes "red=") (λ d red twice.
    flag_tells (codes "pli") (λ pli. flag_tells (codes "fir") (λ fir.
    done_tells {l = type_with pt codec rate rtx red pli fir}
    (r, d, again, twice, is.1, goes.1, goes.2, λ i. codes "type" ∷ is.0 i ∷ has i ∷ goes.0 i ∷ spelled r d pli fir i))))))))
  where
    spelled : (r d : List (List ℕ)) (pli fir : Bool) → r ++ (d ++ (flag_words (codes "pli") pli ++ (flag_words (codes "fir") fir ++ [])))
        ≡ r ++ (d ++ (flag_words (codes "pli") pli ++ flag_words (codes "fir") fir))
    spelled r d pli fir = ap (λ (ws : List (List ℕ)). r ++ (d ++ (flag_words (codes "pli") pli ++ ws))) (append-nil (flag_words (codes "fir") fir))

media_tells : Tells media_line (Behind (codes "media"))
media_tells =
    then_tells (name_spelled 16) (λ m mid is. then_tells (one_spelled media_kind_text media_kinds) (λ k kind has. then_tells (name_spelled 255) (λ c cname goes.
    done_tells (is.1, goes.1, λ i. codes "media" ∷ is.0 i ∷ has i ∷ goes.0 i ∷ []))))

stream_tells : Tells stream_line (Behind (codes "stream"))
stream_tells =
    then_tells side_spelled (λ s side from. then_tells (name_spelled 16) (λ m mid of. then_tells (narrow_spelled (2 ^ 32)) (λ n ssrc is.
    then_tells (optional_32_spelled (codes "-")) (λ w rtx again. then_tells rid_spelled (λ v rid layer.
    done_tells (w, v, of.1, is.1, again, layer, λ i. codes "stream" ∷ from i ∷ of.0 i ∷ is.0 i ∷ w ∷ v ∷ []))))))

start_tells : Tells start_line (Behind (codes "start"))
start_tells =
    then_tells (narrow_spelled (2 ^ 32)) (λ s ssrc is. then_tells (at_most_spelled (2 ^ 48)) (λ n number has.
    done_tells (is.1, has.1, λ i. codes "start" ∷ is.0 i ∷ has.0 i ∷ [])))

cache_tells : Tells cache_line (Behind (codes "cache"))
cache_tells =
    then_tells (narrow_spelled (2 ^ 32)) (λ s ssrc is. then_tells number_spelled (λ p packets has. then_tells millis_spelled (λ a age lasts.
    then_tells (optional_32_spelled (codes "none")) (λ w cap caps.
    done_tells (lasts.0, w, is.1, has.1, lasts.2, lasts.3, caps, λ i. codes "cache" ∷ is.0 i ∷ has.0 i ∷ lasts.1 i ∷ w ∷ [])))))

side_line_spelled : (words : List (List ℕ)) (said : SetupLine) → side_line_of words ≡ Some said → IsSetupLine words said
unfolding side_line_of
side_line_spelled = look_up_tells IsSetupLine no_other side_kinds (rtcp_tells, (local_tells, tt)) (none_tells IsSetupLine)

named_line_spelled : (words : List (List ℕ)) (said : SetupLine) → named_line_of words ≡ Some said → IsSetupLine words said
unfolding named_line_of
named_line_spelled = look_up_tells IsSetupLine side_line_of named_kinds (media_tells, (stream_tells, (start_tells, (cache_tells, tt)))) side_line_spelled

number_line_spelled : (words : List (List ℕ)) (said : SetupLine) → number_line_of words ≡ Some said → IsSetupLine words said
unfolding number_line_of
number_line_spelled = look_up_tells IsSetupLine named_line_of number_kinds (unix_tells, (mtu_tells, (pause_tells, (reports_tells, tt)))) named_line_spelled

-- what a setup line says is how it is spelled
pub setup_line_spelled : (words : List (List ℕ)) (said : SetupLine) → setup_line_of words ≡ Some said → IsSetupLine words said
unfolding setup_line_of
setup_line_spelled = look_up_tells IsSetupLine number_line_of setup_kinds (cipher_tells, (profile_tells, (key_tells, (ext_tells, (type_tells, tt))))) number_line_spelled

-- the words behind the rate of a type are read one after the other

abbrev flags : Bool → Bool → List (List ℕ)
flags pli fir = flag_words (codes "pli") pli ++ flag_words (codes "fir") fir

flags_again : (pli fir : Bool) (L : Type 0) (more : Bool → Bool → List (List ℕ) → Option L)
    → with_flag (codes "pli") (λ a. with_flag (codes "fir") (more a)) (flags pli fir) ≡ more pli fir []
flags_again false false L more = refl
flags_again false true L more = refl
flags_again true false L more = refl
flags_again true true L more = refl

no_red : (pli fir : Bool) → named_type (codes "red=") (flags pli fir) ≡ Some None
unfolding type_behind
no_red false false = refl
no_red false true = refl
no_red true fir = refl

no_rtx : (d : List (List ℕ)) (red : Option ℕ) (pli fir : Bool) → IsNamedType (codes "red=") d red → named_type (codes "rtx=") (d ++ flags pli fir) ≡ Some None
unfolding type_behind
no_rtx d None false false is = rw is refl
no_rtx d None false true is = rw is refl
no_rtx d None true fir is = rw is refl
no_rtx d (Some pt) pli fir is = rw is.0 refl

type_read : (name : List ℕ) (r : List (List ℕ)) (o : Option ℕ) (words : List (List ℕ)) → IsNamedType name r o → named_type name words ≡ Some None
    → {L : Type 0} (more : Option ℕ → List (List ℕ) → Option L) → with_type name more (r ++ words) ≡ more o words
type_read name r None words is none more =
    ap (λ (ws : List (List ℕ)). with_type name more (ws ++ words)) is ∙ ap (λ (p : Option (Option ℕ)). p >>= λ pt. more pt (behind (is_some pt) words)) none ∙ unread words
  where
    unread : (ws : List (List ℕ)) → more None (behind false ws) ≡ more None ws
    unread [] = refl
    unread (w ∷ ws) = refl
type_read name r (Some pt) words is none more =
    ap (λ (ws : List (List ℕ)). with_type name more (ws ++ words)) is.0
    ∙ ap (λ (p : Option (Option ℕ)). p >>= λ n. more n (behind (is_some n) ((name ++ decimal pt) ∷ words))) (named_type_again name pt words is.1)

short : (name : List ℕ) (r : List (List ℕ)) (o : Option ℕ) → IsNamedType name r o → length r ≤ 1
short name r None is = omega (arith, ap length is)
short name r (Some pt) is = omega (arith, ap length is.0)

few_flags : (pli fir : Bool) → length (flags pli fir) ≤ 2
few_flags false false = omega arith
few_flags false true = omega arith
few_flags true false = omega arith
few_flags true true = omega arith

few_words : (a b c e : List ℕ) (r d : List (List ℕ)) (rtx red : Option ℕ) (pli fir : Bool) → IsNamedType (codes "rtx=") r rtx → IsNamedType (codes "red=") d red
    → is_long (a ∷ b ∷ c ∷ e ∷ (r ++ (d ++ flags pli fir))) ≡ false
few_words a b c e r d rtx red pli fir again twice =
    grind (
      arith,
      nat_tests,
      length-append r (d ++ flags pli fir),
      length-append d (flags pli fir),
      short (codes "rtx=") r rtx again,
      short (codes "red=") d red twice,
      few_flags pli fir,
    )

type_again : (t : PayloadType) (r d : List (List ℕ)) → IsNamedType (codes "rtx=") r t.rtx → IsNamedType (codes "red=") d t.red → t.pt < 2 ^ 8 → 0 < t.rate → t.rate < 2 ^ 32
    → in_few setup_line_of (codes "type" ∷ decimal t.pt ∷ codec_text t.codec ∷ decimal t.rate ∷ (r ++ (d ++ flags t.pli t.fir))) ≡ Some (line.Type t)
unfolding setup_line_of
type_again t r d again twice small some fits =
    rw (
      few_words (codes "type") (decimal t.pt) (codec_text t.codec) (decimal t.rate) r d t.rtx t.red t.pli t.fir again twice,
      narrow_again (2 ^ 8) t.pt (lit≤ tt) small,
      codec_again t.codec,
      rate_again t.rate some fits,
    ) (
    type_read (codes "rtx=") r t.rtx (d ++ flags t.pli t.fir) again (no_rtx d t.red t.pli t.fir twice)
    (λ rtx. with_type (codes "red=") (λ red. with_flag (codes "pli") (λ pli. with_flag (codes "fir") (λ fir. done (made rtx red pli fir)))))
    ∙ type_read (codes "red=") d t.red (flags t.pli t.fir) twice (no_red t.pli t.fir)
    (λ red. with_flag (codes "pli") (λ pli. with_flag (codes "fir") (λ fir. done (made t.rtx red pli fir))))
    ∙ flags_again t.pli t.fir SetupLine (λ pli fir. done (made t.rtx t.red pli fir))
    )
  where
    made : Option ℕ → Option ℕ → Bool → Bool → SetupLine
    made = type_with t.pt t.codec t.rate

-- and what is spelled so is read
pub setup_line_again : (words : List (List ℕ)) (said : SetupLine) → IsSetupLine words said → in_few setup_line_of words ≡ Some said
unfolding setup_line_of number_line_of named_line_of side_line_of
setup_line_again words (line.Cipher cipher) is = ap (in_few setup_line_of) is ∙ rw (cipher_again cipher) refl
setup_line_again words (line.Profile profile) is = ap (in_few setup_line_of) is ∙ rw (profile_again profile) refl
setup_line_again words (line.Key key) is = ap (in_few setup_line_of) is.2 ∙ rw (key_again is.0 key is.1) refl
setup_line_again words (line.Unix beginning) is = ap (in_few setup_line_of) is.1 ∙ rw (number_again beginning.unix_secs is.0) refl
setup_line_again words (line.Mtu mtu) is = ap (in_few setup_line_of) is.2 ∙ rw (number_again mtu.target is.0, number_again mtu.warn is.1) refl
setup_line_again words (line.Pause threshold) is = ap (in_few setup_line_of) is.3 ∙ rw (millis_again is.0 threshold is.1 is.2) refl
setup_line_again words (line.Reports intervals) is =
    ap (in_few setup_line_of) is.6
    ∙ rw (millis_again is.0 intervals.audio is.2 is.3, millis_again is.1 intervals.video is.4 is.5) refl
setup_line_again words (line.Rtcp side index) is = ap (in_few setup_line_of) is.1 ∙ rw (side_again side, at_most_again (2 ^ 31) index (lit< tt) is.0) refl
setup_line_again words (line.Local side ssrc) is =
    ap (in_few setup_line_of) is.1 ∙ rw (side_again side, narrow_again (2 ^ 32) ssrc (lit≤ tt) is.0) refl
setup_line_again words (line.Ext named) is =
    ap (in_few setup_line_of) is.1 ∙ rw (narrow_again (2 ^ 8) named.id (lit≤ tt) is.0, extension_again named.extension) refl
setup_line_again words (line.Type t) is =
    ap (in_few setup_line_of) is.7 ∙ type_again t is.0 is.1 is.2 is.3 is.4 is.5 is.6
setup_line_again words (line.Media mid kind cname) is =
    ap (in_few setup_line_of) is.2 ∙ rw (name_again 16 mid is.0, media_kind_again kind, name_again 255 cname is.1) refl
setup_line_again words (line.Stream mid stream) is =
    ap (in_few setup_line_of) is.6
    ∙ rw (
      side_again stream.side,
      name_again 16 mid is.2,
      narrow_again (2 ^ 32) stream.ssrc (lit≤ tt) is.3,
      rtx_again is.0 stream.rtx is.4,
      rid_again is.1 stream.rid is.5,
    ) refl
setup_line_again words (line.Start start) is =
    ap (in_few setup_line_of) is.2
    ∙ rw (narrow_again (2 ^ 32) start.ssrc (lit≤ tt) is.0, at_most_again (2 ^ 48) start.number (lit< tt) is.1) refl
setup_line_again words (line.Cache named) is =
    ap (in_few setup_line_of) is.7
    ∙ rw (
      narrow_again (2 ^ 32) named.ssrc (lit≤ tt) is.2,
      number_again named.cache.packets is.3,
      millis_again is.0 named.cache.age is.4 is.5,
      cap_again is.1 named.cache.cap is.6,
    ) refl
