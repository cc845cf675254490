-- The keys of a compaction by their places, and how many of them lie between two places.
use Rattle.std.specs.Prelude.{ℕ, suc, Bool, ◌&&◌, not, List, [], ◌∷◌, ◌++◌, map}
use Rattle.std.specs.List.{count_by}
use Rattle.std.specs.Ordering.{is_gt}
use Rattle.entry_ref.specs.Records.{Records}
use Rattle.attr_compaction.specs.Places.{place_cmp, PlanPlace}
use Rattle.attr_compaction.specs.declared.plan.PlanKey.{PlanKey}
use Rattle.attr_compaction.specs.declared.plan.TheConstants.{DOCUMENTS, KEYS, LISTS, NODES}
use Rattle.image_format.specs.Tables.{AttributeTrees}
use Rattle.attr_compaction.specs.PhaseKeys.{phase_keys}

-- the place of a key of a phase, in the attribute with this number
abbrev pub place_at : ℕ → ℕ → PlanKey → PlanPlace
place_at field phase key = record { stage = record { field = field; phase = phase }; key = key }

-- an attribute's keys of a phase, and their places
abbrev pub keys_of_phase : Records → AttributeTrees → ℕ → List PlanKey
keys_of_phase m a phase = phase_keys a.type m a.documents a.dictionary phase

abbrev pub places_in : Records → ℕ → AttributeTrees → ℕ → List PlanPlace
places_in m field a phase = map (place_at field phase) (keys_of_phase m a phase)

-- the places of all phases of attributes, the first of which has this number
abbrev pub places_from : Records → ℕ → List AttributeTrees → List PlanPlace
places_from m field [] = []
places_from m field (a ∷ trees) = places_in m field a KEYS ++ (places_in m field a DOCUMENTS ++ (places_in m field a LISTS
    ++ (places_in m field a NODES ++ places_from m (suc field) trees)))

-- a place is after one place, and not after another
abbrev pub is_between : PlanPlace → PlanPlace → PlanPlace → Bool
is_between from to at = is_gt (place_cmp at from) && not (is_gt (place_cmp at to))

-- the number of keys of attributes between two places
abbrev pub keys_between : PlanPlace → PlanPlace → Records → List AttributeTrees → ℕ
keys_between from to m trees = count_by (is_between from to) (places_from m 0 trees)
