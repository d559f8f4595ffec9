-- The first of the clusters.
use Rattle.std.proofs.Common.{◌≡◌, ℕ, ◌<◌, List, [], ◌∷◌, length, get_or, slice_set, refl, arith}
use Rattle.std.specs.Prelude.{Option, Some, None, slice_get, remove, if◌then◌else◌}
use Rattle.pace_units.specs.declared.cluster.ProbeClusterState.{ProbeClusterState}
use Rattle.pace_units.specs.Cluster.{should_send, after_ask, asked_size, is_complete, recorded}
use Rattle.pace_core.specs.Past.{asked_first, asked_by, clusters_sent, ended_by, clusters_told, told_of}

pub asked_first_set : (cs : List ProbeClusterState) (now : ℕ) (d : ProbeClusterState) → 0 < length cs
    → asked_first cs now ≡ slice_set cs 0 (if should_send (get_or cs 0 d) now then after_ask (get_or cs 0 d) now else get_or cs 0 d)
asked_first_set [] now d lt = absurd (omega arith)
asked_first_set (c ∷ cs) now d lt = refl

pub asked_by_first : (cs : List ProbeClusterState) (now : ℕ) (d : ProbeClusterState) → 0 < length cs
    → asked_by (slice_get cs 0) now ≡ (if should_send (get_or cs 0 d) now then asked_size (get_or cs 0 d) now else None)
asked_by_first [] now d lt = absurd (omega arith)
asked_by_first (c ∷ cs) now d lt = refl

pub clusters_sent_first : (cs : List ProbeClusterState) (now size : ℕ) (d : ProbeClusterState) → 0 < length cs
    → clusters_sent cs now size
    ≡ (if is_complete (recorded (get_or cs 0 d) now size) then remove (slice_set cs 0 (recorded (get_or cs 0 d) now size)) 0 else slice_set cs 0 (recorded (get_or cs 0 d) now size))
clusters_sent_first [] now size d lt = absurd (omega arith)
clusters_sent_first (c ∷ cs) now size d lt = refl

pub ended_by_first : (ended : Option ℕ) (cs : List ProbeClusterState) (now size : ℕ) (d : ProbeClusterState) → 0 < length cs
    → ended_by ended cs now size ≡ (if is_complete (recorded (get_or cs 0 d) now size) then Some (get_or cs 0 d).config.cluster else ended)
ended_by_first ended [] now size d lt = absurd (omega arith)
ended_by_first ended (c ∷ cs) now size d lt = refl

pub clusters_told_first : (cs : List ProbeClusterState) (d : ProbeClusterState) → 0 < length cs
    → clusters_told None cs ≡ (if is_complete (get_or cs 0 d) then remove cs 0 else cs)
clusters_told_first [] d lt = absurd (omega arith)
clusters_told_first (c ∷ cs) d lt = refl

pub told_of_first : (cs : List ProbeClusterState) (d : ProbeClusterState) → 0 < length cs
    → told_of None cs ≡ (if is_complete (get_or cs 0 d) then Some (get_or cs 0 d).config.cluster else None)
told_of_first [] d lt = absurd (omega arith)
told_of_first (c ∷ cs) d lt = refl
