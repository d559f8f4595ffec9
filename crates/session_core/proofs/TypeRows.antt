-- The rows of codecs.
use Rattle.std.proofs.Common.{◌≡◌, ℕ, List, [], ◌∷◌, ◌++◌, refl}
use Rattle.payload_core.specs.declared.params.PayloadParams.{PayloadParams}
use Rattle.stream_core.specs.declared.payload_types.TypeRow.{TypeRow}
use Rattle.session_core.specs.Types.{with_params, types_after}

pub types_more : (rows : List (ℕ × TypeRow)) (ps : List PayloadParams) (p : PayloadParams) → types_after rows (ps ++ p ∷ []) ≡ with_params p (types_after rows ps)
types_more rows [] p = refl
types_more rows (q ∷ ps) p = types_more (with_params q rows) ps p
