use Rattle.std.proofs.Common.{◌≡◌, take}
use Rattle.std.specs.List.{fold}
use Rattle.rtp_wire.specs.Extensions.{no_extensions}
use Rattle.media_model.specs.Setup.{with_named}
use Rattle.media_model.proofs.setup.Setup.extension_map.Given as goal

abbrev pub invariant-loop-named : goal.invariant-loop-named
invariant-loop-named l = l.exts ≡ fold with_named no_extensions (take l.named-index l.named-items)
