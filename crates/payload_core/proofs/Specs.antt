-- Two specs are one exactly where all their fields are.
use Rattle.std.proofs.Common.{◌≡◌, ℕ, ◌+◌, ◌<◌, Bool, true, false, eqb, Option, Some, None, List, length, refl, sym, ap, ◌∙◌, rules, get_or, below_more}
use Rattle.std.specs.Prelude.{slice_get}
use Rattle.std.specs.Option.{option_eq}
use mathlib.Core.Bool.{◌&&◌, beq}
use Rattle.std.proofs.lemmas.Bool.{and_parts, eqb-true, eq-eqb}
use Rattle.std.proofs.lemmas.Option.{slice_get_read}
use denote.Enum.Bare.{sameb, same_true, true_same}
use Rattle.payload_core.specs.contracts.codec.Codec.{the_type}
use Rattle.payload_core.specs.declared.codec.Codec.{Codec}
use Rattle.payload_core.specs.declared.codec.CodecSpec.{CodecSpec}
use Rattle.payload_core.specs.declared.codec.FormatParams.{FormatParams}
use Rattle.payload_core.specs.declared.params.PayloadParams.{PayloadParams}
use Rattle.payload_core.specs.Params.{NoneBelow, IsFirstWith}

same_numbers : (a b : Option ℕ) → option_eq eqb a b ≡ true → a ≡ b
same_numbers None None e = refl
same_numbers None (Some y) e = absurd cc
same_numbers (Some x) None e = absurd cc
same_numbers (Some x) (Some y) e = ap Some (eqb-true x y e)

number_self : (a : Option ℕ) → option_eq eqb a a ≡ true
number_self None = refl
number_self (Some x) = eq-eqb x x refl

same_flag : (a b : Bool) → beq a b ≡ true → a ≡ b
same_flag true true e = refl
same_flag true false e = absurd cc
same_flag false true e = absurd cc
same_flag false false e = refl

same_flags : (a b : Option Bool) → option_eq beq a b ≡ true → a ≡ b
same_flags None None e = refl
same_flags None (Some y) e = absurd cc
same_flags (Some x) None e = absurd cc
same_flags (Some x) (Some y) e = ap Some (same_flag x y e)

flag_self : (a : Option Bool) → option_eq beq a a ≡ true
flag_self None = refl
flag_self (Some true) = refl
flag_self (Some false) = refl

abbrev pub same_format : FormatParams → FormatParams → Bool
same_format a b =
    option_eq eqb a.min_p_time b.min_p_time
    && (option_eq beq a.use_inband_fec b.use_inband_fec
    && (option_eq beq a.use_dtx b.use_dtx
    && (option_eq beq a.level_asymmetry_allowed b.level_asymmetry_allowed
    && (option_eq eqb a.packetization_mode b.packetization_mode
    && (option_eq eqb a.profile_level_id b.profile_level_id
    && (option_eq eqb a.profile_id b.profile_id
    && option_eq eqb a.sprop_max_don_diff b.sprop_max_don_diff))))))

abbrev pub same_spec : CodecSpec → CodecSpec → Bool
same_spec a b =
    sameb the_type a.codec b.codec
    && (eqb a.clock_rate b.clock_rate
    && (option_eq eqb a.channels b.channels
    && same_format a.format b.format))

format_with : Option ℕ → Option Bool → Option Bool → Option Bool → Option ℕ → Option ℕ → Option ℕ → Option ℕ → FormatParams
format_with p1 p2 p3 p4 p5 p6 p7 p8 = record {
  min_p_time = p1;
  use_inband_fec = p2;
  use_dtx = p3;
  level_asymmetry_allowed = p4;
  packetization_mode = p5;
  profile_level_id = p6;
  profile_id = p7;
  sprop_max_don_diff = p8;
}

abbrev format_again : FormatParams → FormatParams
format_again a = format_with a.min_p_time a.use_inband_fec a.use_dtx a.level_asymmetry_allowed a.packetization_mode a.profile_level_id a.profile_id a.sprop_max_don_diff

formats_again : (a b : FormatParams) → same_format a b ≡ true → format_again a ≡ format_again b
formats_again a b e =
    let p1 = and_parts _ _ e in
    let p2 = and_parts _ _ p1.1 in
    let p3 = and_parts _ _ p2.1 in
    let p4 = and_parts _ _ p3.1 in
    let p5 = and_parts _ _ p4.1 in
    let p6 = and_parts _ _ p5.1 in
    let p7 = and_parts _ _ p6.1 in
    let e1 = same_numbers a.min_p_time b.min_p_time p1.0 in
    let e2 = same_flags a.use_inband_fec b.use_inband_fec p2.0 in
    let e3 = same_flags a.use_dtx b.use_dtx p3.0 in
    let e4 = same_flags a.level_asymmetry_allowed b.level_asymmetry_allowed p4.0 in
    let e5 = same_numbers a.packetization_mode b.packetization_mode p5.0 in
    let e6 = same_numbers a.profile_level_id b.profile_level_id p6.0 in
    let e7 = same_numbers a.profile_id b.profile_id p7.0 in
    let e8 = same_numbers a.sprop_max_don_diff b.sprop_max_don_diff p7.1 in
    rw (e1, e2, e3, e4, e5, e6, e7, e8) refl

formats_one : (a b : FormatParams) → same_format a b ≡ true → a ≡ b
unfolding format_with
formats_one a b e = formats_again a b e

spec_with : Codec → ℕ → Option ℕ → FormatParams → CodecSpec
spec_with codec clock channels format = record { codec = codec; clock_rate = clock; channels = channels; format = format }

specs_again : (a b : CodecSpec) → same_spec a b ≡ true → spec_with a.codec a.clock_rate a.channels a.format ≡ spec_with b.codec b.clock_rate b.channels b.format
specs_again a b e =
    let p1 = and_parts _ _ e in
    let p2 = and_parts _ _ p1.1 in
    let p3 = and_parts _ _ p2.1 in
    let e1 : a.codec ≡ b.codec = same_true the_type (search rules) _ _ p1.0 in
    let e2 = eqb-true a.clock_rate b.clock_rate p2.0 in
    let e3 = same_numbers a.channels b.channels p3.0 in
    let e4 = formats_one a.format b.format p3.1 in
    rw (e1, e2, e3, e4) refl

pub specs_one : (a b : CodecSpec) → same_spec a b ≡ true → a ≡ b
unfolding spec_with
specs_one a b e = specs_again a b e

pub spec_self : (a b : CodecSpec) → a ≡ b → same_spec a b ≡ true
spec_self a b e =
    let codec = true_same the_type a.codec a.codec refl in
    let clock : eqb a.clock_rate a.clock_rate ≡ true = eq-eqb a.clock_rate a.clock_rate refl in
    let channels = number_self a.channels in
    let f = a.format in
    let one = number_self f.min_p_time in
    let two = flag_self f.use_inband_fec in
    let three = flag_self f.use_dtx in
    let four = flag_self f.level_asymmetry_allowed in
    let five = number_self f.packetization_mode in
    let six = number_self f.profile_level_id in
    let seven = number_self f.profile_id in
    let eight = number_self f.sprop_max_don_diff in
    rw (← e) (rw (codec, clock, channels, one, two, three, four, five, six, seven, eight) refl)

pub first_found : (xs : List PayloadParams) (i : ℕ) (x : PayloadParams) (spec : CodecSpec) → i < length xs → x ≡ get_or xs i x → same_spec x.spec spec ≡ true
    → NoneBelow spec xs i → IsFirstWith spec xs x
first_found xs i x spec lt at same none =
    record { place = i; there = slice_get_read xs (length xs) i x refl lt at; carries = specs_one x.spec spec same; none_before = none }

pub none_more : (xs : List PayloadParams) (i : ℕ) (x : PayloadParams) (spec : CodecSpec) → i < length xs → x ≡ get_or xs i x → same_spec x.spec spec ≡ false
    → NoneBelow spec xs i → NoneBelow spec xs (i + 1)
none_more xs i x spec lt at other none =
    let there : slice_get xs i ≡ Some x = slice_get_read xs (length xs) i x refl lt at in
    below_more _ _ none (λ p found one.
    let e : p ≡ x = cc in
    let t : same_spec x.spec spec ≡ true = spec_self x.spec spec (ap (λ (q : PayloadParams). q.spec) (sym e) ∙ one) in
    cc)
