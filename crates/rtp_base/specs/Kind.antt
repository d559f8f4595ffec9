-- Whether two datagrams carry the same.
use Rattle.std.specs.Prelude.{Bool, true, false}
use Rattle.rtp_base.specs.declared.kind.Kind.{Kind}
use Rattle.rtp_base.specs.declared.kind.Kind.TheVariants.{Rtp, Rtcp}

abbrev pub same_kind : Kind → Kind → Bool
same_kind Rtp Rtp = true
same_kind Rtp Rtcp = false
same_kind Rtcp Rtp = false
same_kind Rtcp Rtcp = true
