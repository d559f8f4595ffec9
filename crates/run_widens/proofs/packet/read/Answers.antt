use Rattle.std.proofs.Common.{◌∙◌, sym, [], subst, ◌≡◌, ◌≤◌, ℕ, List, Some, None, arith, cond, Bool, true, false}
use Rattle.rtp_wire.specs.declared.extension.ExtensionMap.{ExtensionMap}
use Rattle.rtp_wire.specs.declared.header.RtpHeader.{RtpHeader}
use Rattle.rtp_wire.specs.Header.{header_of, has_header, fields_of}
use Rattle.run_widens.proofs.packet.read.Goals as goal

-- a header ends within its packet
pub split_at-requires : goal.split_at-requires
split_at-requires c =
    (c.header_reads_own_bytes.ensures c.args.exts.now c.args.bytes.now [] c.in-Some.header (sym c.parse.ensures ∙ c.in-Some.is)).2

few : (exts : ExtensionMap) (bytes : List ℕ) (h : RtpHeader) → header_of exts bytes ≡ Some h → h.csrc_count ≤ 15
unfolding header_of
few exts bytes h e = go (has_header bytes) e where
  go : (b : Bool) → cond b (Some (fields_of exts bytes)) None ≡ Some h → h.csrc_count ≤ 15
  go true e' = let is : fields_of exts bytes ≡ h = cc in let P : RtpHeader → Type 0 = λ g. g.csrc_count ≤ 15 in subst P is (omega arith)
  go false e' = absurd cc

-- a header has at most 15 sources
pub returns-clause-sources : goal.returns-clause-sources
returns-clause-sources c = few c.args.exts.now c.args.bytes.now c.in-Some.header (sym c.parse.ensures ∙ c.in-Some.is)
