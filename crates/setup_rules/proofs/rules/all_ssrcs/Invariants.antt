use Rattle.std.proofs.Common.{◌≡◌, ◌∷◌, take}
use Rattle.std.specs.List.{flat_map}
use Rattle.setup_rules.specs.SetupRules.{both_of}
use Rattle.setup_rules.proofs.rules.all_ssrcs.Given as goal

abbrev pub invariant-loop-media : goal.invariant-loop-media
invariant-loop-media l = l.ssrcs.items ≡ l.fn.setup.a.ssrc ∷ l.fn.setup.b.ssrc ∷ flat_map both_of (flat_map (λ m. m.streams) (take l.media-index l.media-items))
