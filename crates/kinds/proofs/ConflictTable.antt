-- The table of conflicts by the indices of kinds: the entry for two of them is `conflicting`, whichever is named first. Assumes nothing.
use Prim.Native.Nat.{ℕ}
use mathlib.Core.Path.{◌≡◌, sym, ap, ◌∙◌}
use mathlib.Core.Bool.{Bool, true, false}
use mathlib.Core.List.{[], map}
use lib.ListN.{get_or}
use Rattle.std.proofs.lemmas.List.{get_or-map}
use Rattle.trace.specs.Trace.{is_access}
use Rattle.trace.specs.Race.{conflicting}
use Rattle.trace.proofs.Conflicts.{access_kinds, conflict_table, table_rule, conflicting_sym}
use Rattle.kinds.specs.Kinds.{index_of}
use Rattle.kinds.proofs.ByNumber.{at_index, index_few}

-- The entry for two kinds, as the code reads it.
abbrev entry : ℕ → ℕ → Bool
entry j k = get_or (get_or conflict_table (index_of j) []) (index_of k) false

pub entry_right : (j k : ℕ) → is_access j ≡ true → is_access k ≡ true → entry j k ≡ conflicting j k
entry_right j k first second =
    ap (λ rows. get_or (get_or rows (index_of j) []) (index_of k) false) table_rule
    ∙ ap (λ row. get_or row (index_of k) false) (get_or-map (λ i. map (conflicting i) access_kinds) access_kinds (index_of j) 0 [] (index_few j first))
    ∙ get_or-map (conflicting (get_or access_kinds (index_of j) 0)) access_kinds (index_of k) 0 false (index_few k second)
    ∙ rw (at_index j first, at_index k second)

pub entry_symmetric : (j k : ℕ) → is_access j ≡ true → is_access k ≡ true → entry j k ≡ entry k j
entry_symmetric j k first second = entry_right j k first second ∙ conflicting_sym j k ∙ sym (entry_right k j second first)
