-- The laws of each cipher that is made of a block and a tag.
use Rattle.std.proofs.Common.{◌≡◌, ℕ, ◌+◌, ◌<◌, List, ◌++◌, length, get_or, take, refl, sym, ap, ◌∙◌, arith}
use Rattle.std.specs.Prelude.{slice_index, bit_xor}
use Rattle.std.specs.Int.Bits.{xor_assoc, xor_self, xor_zero_r}
use Rattle.std.proofs.lemmas.List.{take_at, length-append}
use Rattle.std.proofs.lemmas.List.FromFn.{fill_by_all, length-map-range_with_len, get_or-map-range_with_len}
use Rattle.media_base.specs.Text.{bytes_by}
use Rattle.srtp_core.specs.Streams.{streamed}
use Rattle.srtp_core.specs.Simulated.{nonce_stream, sealed_text}
use Rattle.srtp_core.specs.declared.aead_aes_128_gcm.TheConstants.{TAG_LEN}

-- n bytes of which byte k is f k
pub made : (f : ℕ → ℕ) (xs : List ℕ) (n : ℕ) → length xs ≡ n → ((k : ℕ) → k < n → get_or xs k 0 ≡ f k) → xs ≡ bytes_by f n
made f xs n long each = fill_by_all f xs n 0 long each

pub length-bytes_by : (f : ℕ → ℕ) (n : ℕ) → length (bytes_by f n) ≡ n
length-bytes_by f n = length-map-range_with_len f 0 n

pub slice_index-bytes_by : (f : ℕ → ℕ) (n i : ℕ) → i < n → slice_index (bytes_by f n) i ≡ f i
slice_index-bytes_by f n i h = get_or-map-range_with_len f 0 n i i 0 h (omega arith)

pub xor_again : (x s : ℕ) → bit_xor (bit_xor x s) s ≡ x
xor_again x s = xor_assoc x s s ∙ ap (bit_xor x) (xor_self s) ∙ xor_zero_r x

pub length-streamed : (stream : ℕ → ℕ) (p : List ℕ) → length (streamed stream p) ≡ length p
unfolding streamed
length-streamed stream p = length-bytes_by _ (length p)

pub slice_index-streamed : (stream : ℕ → ℕ) (p : List ℕ) (i : ℕ) → i < length p → slice_index (streamed stream p) i ≡ bit_xor (slice_index p i) (stream i)
unfolding streamed
slice_index-streamed stream p i h = slice_index-bytes_by (λ i. bit_xor (slice_index p i) (stream i)) (length p) i h

-- XORed twice it is the text again
pub streamed-streamed : (stream : ℕ → ℕ) (p : List ℕ) → streamed stream (streamed stream p) ≡ p
unfolding streamed
streamed-streamed stream p =
    sym (made (λ i. bit_xor (slice_index (streamed stream p) i) (stream i)) p (length (streamed stream p)) (sym (length-streamed stream p))
    (λ i h. sym (ap (λ x. bit_xor x (stream i)) (slice_index-streamed stream p i (omega (arith, length-streamed stream p))) ∙ xor_again (slice_index p i) (stream i))))

pub length-tagged : (stream : ℕ → ℕ) (p t : List ℕ) (n : ℕ) → length t ≡ n → length (streamed stream p ++ t) ≡ length p + n
length-tagged stream p t n h = omega (arith, length-append (streamed stream p) t, length-streamed stream p)

pub take-tagged : (stream : ℕ → ℕ) (p t : List ℕ) (n : ℕ) → length p ≡ n → take n (streamed stream p ++ t) ≡ streamed stream p
take-tagged stream p t n h = take_at (streamed stream p) t n (length-streamed stream p ∙ h)

-- no two texts are alike once they are XORed and tagged
pub tagged_apart : (stream : ℕ → ℕ) (p q s t : List ℕ) → length s ≡ length t → streamed stream p ++ s ≡ streamed stream q ++ t → p ≡ q
tagged_apart stream p q s t h e =
    let long : length q ≡ length p = omega (arith, length-tagged stream p s (length t) h, length-tagged stream q t (length t) refl, ap length e) in
    sym (streamed-streamed stream p)
    ∙ ap (streamed stream) (sym (take-tagged stream p s (length p) refl) ∙ ap (take (length p)) e ∙ take-tagged stream q t (length p) long)
    ∙ streamed-streamed stream q

module _ (block : List ℕ → List ℕ → List ℕ) (tag : List ℕ → List ℕ → List ℕ → List ℕ → List ℕ) (tag_len : (key iv aad text : List ℕ) → length (tag key iv aad text) ≡ TAG_LEN) where
  pub length-sealed_text : (key iv aad text : List ℕ) → length (sealed_text block tag key iv aad text) ≡ length text + TAG_LEN
  unfolding sealed_text
  length-sealed_text key iv aad text = length-tagged (nonce_stream block key iv) text (tag key iv aad text) TAG_LEN (tag_len key iv aad text)

  pub sealed_text_apart : (key iv aad p q : List ℕ) → sealed_text block tag key iv aad p ≡ sealed_text block tag key iv aad q → p ≡ q
  unfolding sealed_text
  sealed_text_apart key iv aad p q e =
      tagged_apart (nonce_stream block key iv) p q (tag key iv aad p) (tag key iv aad q) (tag_len key iv aad p ∙ sym (tag_len key iv aad q)) e
