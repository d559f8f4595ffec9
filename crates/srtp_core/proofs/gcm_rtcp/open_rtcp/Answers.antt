use Rattle.std.proofs.Common.{◌-◌, arith, length}
use Rattle.srtp_core.proofs.RtcpParts.{Split, small_back, encrypted_opens, encrypted_opens_not, clear_opens, clear_opens_not}
use Rattle.srtp_core.proofs.gcm_rtcp.open_rtcp.Goals as goal

pub returns-then-number-ge-E_BIT-clause-some : goal.returns-then-number-ge-E_BIT-clause-some
returns-then-number-ge-E_BIT-clause-some g c =
    let s : Split c.args.buf.now c.split_at.result.0.now c.split_at.result.1.now c.word-number.result = record {
      size = omega arith;
      front = c.split_at.ensures.front;
      back = c.split_at.ensures.back;
      small = small_back c.args.buf.now c.split_at.result.1.now (length c.args.buf.now - 4) c.split_at.ensures.back (λ i. omega (arith, c.type_inv.buf i));
      is = c.word-number.ensures;
      fits = omega arith;
    } in
    encrypted_opens (λ v. v.items) g.C.SrtpCipher.meaning c.args.keys.now.key c.args.keys.now.salt c.args.buf.now c.split_at.result.0.now c.split_at.result.1.now c.split_at-then-number-ge-E_BIT.result.0.now c.split_at-then-number-ge-E_BIT.result.1.now c.word-number.result c.open_encrypted.result s c.split_at-then-number-ge-E_BIT.ensures.front c.split_at-then-number-ge-E_BIT.ensures.back (omega arith) c.open_encrypted.ensures.opened c.open_encrypted.ensures.some

pub returns-then-number-ge-E_BIT-clause-none : goal.returns-then-number-ge-E_BIT-clause-none
returns-then-number-ge-E_BIT-clause-none g c =
    let s : Split c.args.buf.now c.split_at.result.0.now c.split_at.result.1.now c.word-number.result = record {
      size = omega arith;
      front = c.split_at.ensures.front;
      back = c.split_at.ensures.back;
      small = small_back c.args.buf.now c.split_at.result.1.now (length c.args.buf.now - 4) c.split_at.ensures.back (λ i. omega (arith, c.type_inv.buf i));
      is = c.word-number.ensures;
      fits = omega arith;
    } in
    encrypted_opens_not g.C.SrtpCipher.meaning c.args.keys.now.key c.args.keys.now.salt c.args.buf.now c.split_at.result.0.now c.split_at.result.1.now c.split_at-then-number-ge-E_BIT.result.0.now c.split_at-then-number-ge-E_BIT.result.1.now c.word-number.result c.open_encrypted.result s c.split_at-then-number-ge-E_BIT.ensures.front c.split_at-then-number-ge-E_BIT.ensures.back (omega arith) c.open_encrypted.ensures.none

pub returns-else-number-ge-E_BIT-clause-some : goal.returns-else-number-ge-E_BIT-clause-some
returns-else-number-ge-E_BIT-clause-some g c =
    let s : Split c.args.buf.now c.split_at.result.0.now c.split_at.result.1.now c.word-number.result = record {
      size = omega arith;
      front = c.split_at.ensures.front;
      back = c.split_at.ensures.back;
      small = small_back c.args.buf.now c.split_at.result.1.now (length c.args.buf.now - 4) c.split_at.ensures.back (λ i. omega (arith, c.type_inv.buf i));
      is = c.word-number.ensures;
      fits = omega arith;
    } in
    clear_opens (λ v. v.items) g.C.SrtpCipher.meaning c.args.keys.now.key c.args.keys.now.salt c.args.buf.now c.split_at.result.0.now c.split_at.result.1.now c.split_at-else-number-ge-E_BIT.result.0.now c.split_at-else-number-ge-E_BIT.result.1.now c.word-number.result (length c.split_at.result.0.now - 16) c.open_clear.result s c.split_at-else-number-ge-E_BIT.ensures.front c.split_at-else-number-ge-E_BIT.ensures.back (omega arith) (omega arith) c.open_clear.ensures.opened c.open_clear.ensures.some

pub returns-else-number-ge-E_BIT-clause-none : goal.returns-else-number-ge-E_BIT-clause-none
returns-else-number-ge-E_BIT-clause-none g c =
    let s : Split c.args.buf.now c.split_at.result.0.now c.split_at.result.1.now c.word-number.result = record {
      size = omega arith;
      front = c.split_at.ensures.front;
      back = c.split_at.ensures.back;
      small = small_back c.args.buf.now c.split_at.result.1.now (length c.args.buf.now - 4) c.split_at.ensures.back (λ i. omega (arith, c.type_inv.buf i));
      is = c.word-number.ensures;
      fits = omega arith;
    } in
    clear_opens_not g.C.SrtpCipher.meaning c.laws.ensures.longer c.args.keys.now.key c.args.keys.now.salt c.args.buf.now c.split_at.result.0.now c.split_at.result.1.now c.split_at-else-number-ge-E_BIT.result.0.now c.split_at-else-number-ge-E_BIT.result.1.now c.word-number.result (length c.split_at.result.0.now - 16) c.open_clear.result s c.split_at-else-number-ge-E_BIT.ensures.front c.split_at-else-number-ge-E_BIT.ensures.back (omega arith) (omega arith) c.open_clear.ensures.none
