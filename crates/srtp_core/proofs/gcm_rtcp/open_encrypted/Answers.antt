use Rattle.std.proofs.Common.{◌≡◌, true, ℕ, ◌++◌, List, length, take, drop, ap, sym, ◌∙◌, arith, length-append}
use Rattle.std.proofs.lemmas.List.{take_at, drop_at}
use Rattle.srtp_core.specs.Seals.{gcm_rtcp_iv}
use Rattle.srtp_core.specs.RtcpSeals.{sender_of}
use Rattle.srtp_core.proofs.gcm_rtcp.open_encrypted.Goals as goal

-- what two parts are written to, behind a front of 8 bytes
back : (a b rest : List ℕ) (n : ℕ) → length a ≡ 8 → length (a ++ b) ≡ n → drop 8 (take n ((a ++ b) ++ rest)) ≡ b
back a b rest n front size = ap (drop 8) (take_at (a ++ b) rest n size) ∙ drop_at a b 8 front

pub returns-then-open-clause-opened : goal.returns-then-open-clause-opened
returns-then-open-clause-opened g c =
    let a = c.copy_from_slice.new.self in
    let b = c.open.new.output in
    let front : length a ≡ 8 = omega arith in
    let rest = drop (length (a ++ b)) c.in_ok-plain.plain.items in
    let size : length (a ++ b) ≡ c.in_ok-plain.plain.len = omega (arith, length-append a b) in
    take_at (a ++ b) rest c.in_ok-plain.plain.len size ∙ ap (λ h. h ++ b) c.copy_from_slice.ensures.after ∙ ap (λ r. c.args.header.now ++ r) (sym (back a b rest c.in_ok-plain.plain.len front size))

pub returns-then-open-clause-some : goal.returns-then-open-clause-some
returns-then-open-clause-some g c =
    let a = c.copy_from_slice.new.self in
    let b = c.open.new.output in
    let aead = g.C.SrtpCipher.meaning.aead c.args.keys.now.key in
    let front : length a ≡ 8 = omega arith in
    let rest = drop (length (a ++ b)) c.in_ok-plain.plain.items in
    let size : length (a ++ b) ≡ c.in_ok-plain.plain.len = omega (arith, length-append a b) in
    let iv = gcm_rtcp_iv c.args.keys.now.salt (sender_of c.args.header.now) c.args.index in
    let is : c.rtcp_iv-iv.result ≡ iv = c.rtcp_iv-iv.ensures ∙ ap (λ s. gcm_rtcp_iv c.args.keys.now.salt s c.args.index) c.sender.ensures in
    ap (aead iv (c.args.header.now ++ c.args.word.now)) (back a b rest c.in_ok-plain.plain.len front size)
    ∙ ap (λ v. aead v (c.args.header.now ++ c.args.word.now) b) (sym is)
    ∙ c.open.ensures.opens c.if-open.true

pub returns-else-open-clause-none : goal.returns-else-open-clause-none
returns-else-open-clause-none g c = λ rest e.
    let iv = gcm_rtcp_iv c.args.keys.now.salt (sender_of c.args.header.now) c.args.index in
    let is : c.rtcp_iv-iv.result ≡ iv = c.rtcp_iv-iv.ensures ∙ ap (λ s. gcm_rtcp_iv c.args.keys.now.salt s c.args.index) c.sender.ensures in
    let opened : c.open.result ≡ true = c.open.ensures.only rest (ap (λ v. g.C.SrtpCipher.meaning.aead c.args.keys.now.key v (c.args.header.now ++ c.args.word.now) rest) is ∙ e) in
    cc
