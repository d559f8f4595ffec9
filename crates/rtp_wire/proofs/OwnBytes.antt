-- A header is read off its own bytes alone.
use Rattle.std.proofs.Common.{◌≡◌, ℕ, ◌+◌, ◌-◌, ◌*◌, ◌/◌, ◌%◌, ◌≤◌, Bool, true, false, cond, List, ◌++◌, length, take, drop, get_or, replicate, refl, sym, ap, ◌∙◌, arith, length-append, Some, None}
use Rattle.std.specs.Prelude.{◌==◌, if◌then◌else◌}
use Rattle.std.specs.Int.{w16, w32, from_be_bytes}
use Rattle.std.proofs.lemmas.Bool.Decides.{nat_tests}
use Rattle.std.proofs.lemmas.Option.{cond_some}
use Rattle.rtp_base.specs.Wire.{half_at, word_at}
use Rattle.rtp_wire.specs.Bytes.{words_of}
use Rattle.std.proofs.lemmas.List.{length-take-le, take_at}
use Rattle.rtp_wire.specs.declared.values.ExtensionValues.{ExtensionValues}
use Rattle.rtp_wire.specs.Extensions.{no_values, values_of}
use Rattle.rtp_wire.specs.declared.extension.ExtensionMap.{ExtensionMap}
use Rattle.rtp_wire.specs.declared.header.RtpHeader.{RtpHeader}
use Rattle.rtp_wire.specs.Header.{version, has_extension_bit, source_count, sources_end, extension_profile, extension_length, extension_data, header_end, has_header, fields_of, header_of}
use Rattle.rtp_wire.specs.HeaderLaws.{ReadsOwnBytes}
use Rattle.rtp_wire.proofs.WordsAgain.{same_piece, same_byte, half_cut, word_cut}

-- what it takes for a header to stand
pub record Stands (bytes : List ℕ) : Type 0 where
  pub fixed : 12 ≤ length bytes
  pub two : version bytes ≡ 2
  pub whole : header_end bytes ≤ length bytes

stands : (bytes : List ℕ) → has_header bytes ≡ true → Stands bytes
stands bytes h = record { fixed = grind (arith, nat_tests); two = grind (arith, nat_tests); whole = grind (arith, nat_tests) }

stood : (bytes : List ℕ) → Stands bytes → has_header bytes ≡ true
stood bytes h = grind (arith, nat_tests, h.fixed, h.two, h.whole)

-- bytes that agree up to the end of a header have the same header
record Agree (a b : List ℕ) : Type 0 where
  front : take (header_end a) a ≡ take (header_end a) b
  long : header_end a ≤ length b

end_bound : (a : List ℕ) → 12 + 4 * source_count a ≤ header_end a
end_bound a = grind (arith, nat_tests)

end_extended : (a : List ℕ) → has_extension_bit a ≡ true → header_end a ≡ sources_end a + 4 + extension_length a
end_extended a h = rw h refl

first_same : (a b : List ℕ) → Agree a b → get_or b 0 0 ≡ get_or a 0 0
first_same a b h = sym (same_byte (header_end a) 0 a b h.front (omega (arith, end_bound a)))

second_same : (a b : List ℕ) → Agree a b → get_or b 1 0 ≡ get_or a 1 0
second_same a b h = sym (same_byte (header_end a) 1 a b h.front (omega (arith, end_bound a)))

piece_same : (at k : ℕ) (a b : List ℕ) → Agree a b → at + k ≤ header_end a → take k (drop at b) ≡ take k (drop at a)
piece_same at k a b h le = sym (same_piece (header_end a) at k a b h.front le)

half_same : (at : ℕ) (a b : List ℕ) → Agree a b → at + 2 ≤ header_end a → half_at b at ≡ half_at a at
half_same at a b h le = sym (half_cut (drop at b)) ∙ ap (from_be_bytes w16) (piece_same at 2 a b h le) ∙ half_cut (drop at a)

word_same : (at : ℕ) (a b : List ℕ) → Agree a b → at + 4 ≤ header_end a → word_at b at ≡ word_at a at
word_same at a b h le = sym (word_cut (drop at b)) ∙ ap (from_be_bytes w32) (piece_same at 4 a b h le) ∙ word_cut (drop at a)

length_same : (a b : List ℕ) → Agree a b → has_extension_bit a ≡ true → 4 * half_at b (sources_end a + 2) ≡ extension_length a
length_same a b h x = ap (λ (n : ℕ). 4 * n) (half_same (sources_end a + 2) a b h (omega (arith, end_extended a x)))

cond_same : {X : Type 0} (t : Bool) (x y u v : X) → (t ≡ true → x ≡ y) → u ≡ v → cond t x u ≡ cond t y v
cond_same true x y u v f e = f refl
cond_same false x y u v f e = e

end_same : (a b : List ℕ) → Agree a b → header_end b ≡ header_end a
end_same a b h =
    rw (first_same a b h) (cond_same (has_extension_bit a) _ _ _ _ (λ x. ap (λ (n : ℕ). sources_end a + 4 + n) (length_same a b h x)) refl)

unfoldable pub values_in : ExtensionMap → List ℕ → ExtensionValues
values_in exts bytes = if has_extension_bit bytes then values_of exts (extension_profile bytes) (extension_data bytes) else no_values

values_same : (exts : ExtensionMap) (a b : List ℕ) → Agree a b → values_in exts b ≡ values_in exts a
unfolding values_in
values_same exts a b h =
    rw (first_same a b h)
    (cond_same (has_extension_bit a) _ _ _ _
    (λ x. let profile : half_at b (sources_end a) ≡ extension_profile a = half_same (sources_end a) a b h (omega (arith, end_extended a x)) in
    let piece : take (extension_length a) (drop (sources_end a + 4) b) ≡ extension_data a = piece_same (sources_end a + 4) (extension_length a) a b h (omega (arith, end_extended a x)) in
    ap (λ (n : ℕ). values_of exts n (take (4 * half_at b (sources_end a + 2)) (drop (sources_end a + 4) b))) profile
    ∙ ap (λ (n : ℕ). values_of exts (extension_profile a) (take n (drop (sources_end a + 4) b))) (length_same a b h x)
    ∙ ap (values_of exts (extension_profile a)) piece)
    refl)

-- the header that these parts make
header_with : ℕ → ℕ → ℕ → ℕ → ℕ → List ℕ → ExtensionValues → ℕ → RtpHeader
header_with first second number time source words values len = record {
  has_padding = first / 32 % 2 == 1;
  marker = second / 128 % 2 == 1;
  payload_type = second % 128;
  sequence_number = number;
  timestamp = time;
  ssrc = source;
  csrc_count = first % 16;
  csrc = words_of words ++ replicate (15 - first % 16) 0;
  ext_vals = values;
  header_len = len;
}

fields_are : (exts : ExtensionMap) (bytes : List ℕ)
    → fields_of exts bytes ≡ header_with (get_or bytes 0 0) (get_or bytes 1 0) (half_at bytes 2) (word_at bytes 4) (word_at bytes 8) (take (4 * source_count bytes) (drop 12 bytes)) (values_in exts bytes) (header_end bytes)
unfolding header_with values_in
fields_are exts bytes = refl

fields_same : (exts : ExtensionMap) (a b : List ℕ) → Agree a b → fields_of exts b ≡ fields_of exts a
fields_same exts a b h =
    let first = first_same a b h in
    let second = second_same a b h in
    let number = half_same 2 a b h (omega (arith, end_bound a)) in
    let time = word_same 4 a b h (omega (arith, end_bound a)) in
    let source = word_same 8 a b h (omega (arith, end_bound a)) in
    let words : take (4 * source_count b) (drop 12 b) ≡ take (4 * source_count a) (drop 12 a) = rw first (piece_same 12 (4 * source_count a) a b h (omega (arith, end_bound a))) in
    let values = values_same exts a b h in
    let long = end_same a b h in
    fields_are exts b ∙ cc (first, second, number, time, source, words, values, long) ∙ sym (fields_are exts a)

agree_stands : (a b : List ℕ) → Stands a → Agree a b → Stands b
agree_stands a b s h = record {
  fixed = omega (arith, h.long, end_bound a);
  two = ap (λ (n : ℕ). n / 64) (first_same a b h) ∙ s.two;
  whole = omega (arith, end_same a b h, h.long);
}

agree_cut : (a rest : List ℕ) → Stands a → Agree a (take (header_end a) a ++ rest)
agree_cut a rest s =
    let long : length (take (header_end a) a) ≡ header_end a = length-take-le (header_end a) a s.whole in record {
      front = sym (take_at (take (header_end a) a) rest (header_end a) long);
      long = omega (arith, long, length-append (take (header_end a) a) rest);
    }

pub found : (exts : ExtensionMap) (bytes : List ℕ) → Stands bytes → header_of exts bytes ≡ Some (fields_of exts bytes)
unfolding header_of
found exts bytes s = ap (λ (t : Bool). cond t (Some (fields_of exts bytes)) None) (stood bytes s)

pub reads_own_bytes : ReadsOwnBytes
unfolding header_of
reads_own_bytes exts bytes rest h e =
    let stand = stands bytes (cond_some (has_header bytes) (fields_of exts bytes) h e).0 in
    let is : fields_of exts bytes ≡ h = (cond_some (has_header bytes) (fields_of exts bytes) h e).1 in
    let len : header_end bytes ≡ h.header_len = ap (λ (g : RtpHeader). g.header_len) is in
    let agree = agree_cut bytes rest stand in (
      ap (λ (n : ℕ). header_of exts (take n bytes ++ rest)) (sym len) ∙ found exts _ (agree_stands bytes (take (header_end bytes) bytes ++ rest) stand agree) ∙ ap Some (fields_same exts bytes (take (header_end bytes) bytes ++ rest) agree ∙ is),
      omega (arith, len, end_bound bytes),
      omega (arith, len, stand.whole),
    )
