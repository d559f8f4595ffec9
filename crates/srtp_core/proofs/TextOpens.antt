-- What opens under a cipher that is made of a block and a tag.
use Rattle.std.proofs.Common.{◌≡◌, ℕ, ◌+◌, List, ◌++◌, length, take, drop, sym, ap, ◌∙◌, arith}
use Rattle.std.proofs.lemmas.List.{drop_at, take-append-drop}
use Rattle.srtp_core.specs.Streams.{streamed}
use Rattle.srtp_core.specs.Simulated.{nonce_stream, sealed_text}
use Rattle.srtp_core.proofs.SimulatedLaws.{streamed-streamed, length-streamed, take-tagged, length-sealed_text}

-- what opens: the text of a front, where the tag of that text stands behind it
opened : (stream : ℕ → ℕ) (input p t : List ℕ) (n : ℕ) → p ≡ streamed stream (take n input) → drop n input ≡ t → streamed stream p ++ t ≡ input
opened stream input p t n e f =
    ap (λ q. q ++ t) (ap (streamed stream) e ∙ streamed-streamed stream (take n input))
    ∙ ap (λ q. take n input ++ q) (sym f) ∙ take-append-drop n input

drop-tagged : (stream : ℕ → ℕ) (p t : List ℕ) (n : ℕ) → length p ≡ n → drop n (streamed stream p ++ t) ≡ t
drop-tagged stream p t n h = drop_at (streamed stream p) t n (length-streamed stream p ∙ h)

-- what has to open: of a tagged text the front gives the text again, and behind it stands its tag
opens : (stream : ℕ → ℕ) (tag : List ℕ → List ℕ) (input p plain : List ℕ) (n : ℕ) → length plain ≡ n → p ≡ streamed stream (take n input) → streamed stream plain ++ tag plain ≡ input → drop n input ≡ tag p
opens stream tag input p plain n size e g =
    let same : p ≡ plain = e ∙ ap (λ w. streamed stream (take n w)) (sym g) ∙ ap (streamed stream) (take-tagged stream plain (tag plain) n size) ∙ streamed-streamed stream plain in
    ap (drop n) (sym g) ∙ drop-tagged stream plain (tag plain) n size ∙ ap tag (sym same)

module _ (block : List ℕ → List ℕ → List ℕ) (tag : List ℕ → List ℕ → List ℕ → List ℕ → List ℕ) (tag_len : (key iv aad text : List ℕ) → length (tag key iv aad text) ≡ 16) where
  -- what opens
  pub text_opened : (key iv aad input p t : List ℕ) (n : ℕ) → p ≡ streamed (nonce_stream block key iv) (take n input) → t ≡ tag key iv aad p → drop n input ≡ t → sealed_text block tag key iv aad p ≡ input
  unfolding sealed_text
  text_opened key iv aad input p t n e f g = opened (nonce_stream block key iv) input p (tag key iv aad p) n e (g ∙ f)

  -- what has to open
  pub text_opens : (key iv aad input p t : List ℕ) (n : ℕ) → length input ≡ n + 16 → p ≡ streamed (nonce_stream block key iv) (take n input) → t ≡ tag key iv aad p → (plain : List ℕ) → sealed_text block tag key iv aad plain ≡ input → drop n input ≡ t
  unfolding sealed_text
  text_opens key iv aad input p t n long e f plain g =
      opens (nonce_stream block key iv) (λ q. tag key iv aad q) input p plain n (omega (arith, length-sealed_text block tag tag_len key iv aad plain, ap length g)) e g ∙ sym f
