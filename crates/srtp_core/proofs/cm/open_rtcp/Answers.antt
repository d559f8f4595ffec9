use Rattle.std.proofs.Common.{◌≡◌, true, arith}
use Rattle.srtp_core.proofs.CmParts.{Split, encrypted_opens, clear_opens, rtcp_code, rtcp_short}
use Rattle.srtp_core.proofs.cm.open_rtcp.Goals as goal

pub returns-then-buf-lt-MIN_SEALED_LEN-clause-none : goal.returns-then-buf-lt-MIN_SEALED_LEN-clause-none
returns-then-buf-lt-MIN_SEALED_LEN-clause-none g c = λ p o. rtcp_short g.C.SrtpCipher.meaning (g.C.SrtpCipher.bytes_128 c.args.keys.now.key) c.args.keys.now.authentication c.args.keys.now.salt c.args.buf.now p c.if-buf-lt-MIN_SEALED_LEN.true o

pub returns-then-not-rtcp_verify-clause-none : goal.returns-then-not-rtcp_verify-clause-none
returns-then-not-rtcp_verify-clause-none g c =
    λ p o.
    let yes : c.rtcp_verify.result ≡ true = c.rtcp_verify.ensures.1 (rtcp_code g.C.SrtpCipher.meaning (g.C.SrtpCipher.bytes_128 c.args.keys.now.key) c.args.keys.now.authentication c.args.keys.now.salt c.args.buf.now c.split_at.result.0.now c.split_at.result.1.now p (omega arith) c.split_at.ensures.front c.split_at.ensures.back o) in
    cc

pub returns-in_ok-deciphered-clause-some : goal.returns-in_ok-deciphered-clause-some
returns-in_ok-deciphered-clause-some g c =
    let s : Split c.args.buf.now c.split_at.result.0.now c.split_at.result.1.now c.split_at-2.result.0.now c.split_at-2.result.1.now c.word-number.result =
    record {
      size = omega arith;
      front = c.split_at.ensures.front;
      back = c.split_at.ensures.back;
      packet_is = c.split_at-2.ensures.front;
      word_is = c.split_at-2.ensures.back;
      small = λ i. omega (arith, c.type_inv.buf i);
      is = c.word-number.ensures;
      fits = omega arith;
    } in
    encrypted_opens g.C.SrtpCipher.meaning (g.C.SrtpCipher.bytes_128 c.args.keys.now.key) c.args.keys.now.authentication c.args.keys.now.salt c.args.buf.now c.split_at.result.0.now c.split_at.result.1.now c.split_at-2.result.0.now c.split_at-2.result.1.now c.in_ok-deciphered.field-0.items c.word-number.result s (c.rtcp_verify.ensures.0 c.if-not-rtcp_verify.false) (omega arith) c.in_ok-deciphered.ensures

pub returns-in_ok-copied-clause-some : goal.returns-in_ok-copied-clause-some
returns-in_ok-copied-clause-some g c =
    let s : Split c.args.buf.now c.split_at.result.0.now c.split_at.result.1.now c.split_at-2.result.0.now c.split_at-2.result.1.now c.word-number.result =
    record {
      size = omega arith;
      front = c.split_at.ensures.front;
      back = c.split_at.ensures.back;
      packet_is = c.split_at-2.ensures.front;
      word_is = c.split_at-2.ensures.back;
      small = λ i. omega (arith, c.type_inv.buf i);
      is = c.word-number.ensures;
      fits = omega arith;
    } in
    clear_opens g.C.SrtpCipher.meaning (g.C.SrtpCipher.bytes_128 c.args.keys.now.key) c.args.keys.now.authentication c.args.keys.now.salt c.args.buf.now c.split_at.result.0.now c.split_at.result.1.now c.split_at-2.result.0.now c.split_at-2.result.1.now c.in_ok-copied.field-0.items c.word-number.result s (c.rtcp_verify.ensures.0 c.if-not-rtcp_verify.false) (omega arith) c.in_ok-copied.ensures
