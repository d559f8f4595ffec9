-- Queues with the moment at which each was sent on last.
use Rattle.std.specs.Prelude.{ℕ, ◌==◌, ◌&&◌, Bool, if◌then◌else◌, List, [], ◌∷◌, Option, Some, None}
use Rattle.std.specs.Option.{option_eq}
use Rattle.std.specs.Cmp.Lexicographic.{pointwise}
use Rattle.rtp_base.specs.declared.ids.MidRid.{MidRid}

-- the mids are equal, and the rids are too
abbrev pub same_queue : MidRid → MidRid → Bool
same_queue one other = pointwise ◌==◌ one.0 other.0 && option_eq (pointwise ◌==◌) one.1 other.1

-- when a queue was sent on last
abbrev pub last_of : List (MidRid × ℕ) → MidRid → Option ℕ
last_of [] key = None
last_of (e ∷ es) key = if same_queue e.0 key then Some e.1 else last_of es key

-- after a packet of a queue
abbrev pub with_send : List (MidRid × ℕ) → MidRid → ℕ → List (MidRid × ℕ)
with_send [] key now = (key, now) ∷ []
with_send (e ∷ es) key now = if same_queue e.0 key then (e.0, now) ∷ es else e ∷ with_send es key now
