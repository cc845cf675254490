-- Hits are the documents that match, ascending.
use Rattle.std.proofs.Common.{◌≡◌, ◌↔◌, ℕ, Bool, true, false, cond, List, Option, Some, None, nat_cmp, refl}
use Rattle.std.proofs.Common.{sym, subst}
use Rattle.std.proofs.lemmas.Cmp.{nat_cmp_total, eq_by_cmp_equiv}
use Rattle.std.proofs.lemmas.Map.Entries.{option_filter, lookup-filter-values}
use Rattle.std.proofs.lemmas.Map.Keys.{IsDistinct-from_sorted, IsStrictlyIncreasing-from_sorted}
use Rattle.std.proofs.lemmas.Map.Lookups.{exact_unsigned}
use Rattle.std.proofs.lemmas.Map.Views.{IsSome-lookup_from_Contains, Contains-keys_from_lookup, tells_apart}
use Rattle.std.specs.BTreeMap.{is_at}
use Rattle.std.specs.List.{Contains, filter}
use Rattle.std.specs.List.Sorted.{IsStrictlyIncreasing}
use Rattle.std.specs.Map.{keys_of, lookup}
use Rattle.std.specs.Option.{IsSome, IsSomeAnd}
use Rattle.attr_types.proofs.EntryLemmas.{sorted_map-filter}
use Rattle.attr_types.specs.Lawful.{IsLawfulTable}
use Rattle.attr_types.specs.Query.{QueryTree, matches, Matches}
use Rattle.attr_types.specs.Table.{Table, document_at, hits}
use Rattle.attr_types.specs.Value.{Document}
use Rattle.attr_types.specs.declared.field.Field.{Field}

pub hits_ascend : (query : QueryTree) (fields : List Field) (table : Table) → IsLawfulTable fields table
    → IsStrictlyIncreasing (hits query table)
hits_ascend query fields table lawful =
    IsStrictlyIncreasing-from_sorted (hits query table) (sorted_map-filter nat_cmp (λ e. e.0) (λ e. matches query e.1) table lawful.ascends)

found : (query : QueryTree) (fields : List Field) (table : Table) (doc : ℕ) → IsLawfulTable fields table
    → lookup (is_at (nat_cmp doc)) (filter (λ e. matches query e.1) table) ≡ option_filter (matches query) (document_at table doc)
found query fields table doc lawful =
    lookup-filter-values (eq_by_cmp_equiv nat_cmp_total) (matches query) doc table (IsDistinct-from_sorted nat_cmp (keys_of table) lawful.ascends)

kept_then : (p : Document → Bool) (o : Option Document) → IsSome (option_filter p o)
    → IsSomeAnd o (λ document. p document ≡ true)
kept_then p None some = cc
kept_then p (Some document) some = told (p document) some
  where
    told : (b : Bool) → IsSome (cond b (Some document) None) → b ≡ true
    told true some = refl
    told false some = cc

then_kept : (p : Document → Bool) (o : Option Document) → IsSomeAnd o (λ document. p document ≡ true)
    → IsSome (option_filter p o)
then_kept p None match = absurd match
then_kept p (Some document) match = subst (λ b. IsSome (cond b (Some document) None)) (sym match) refl

pub hits_are_matches : (query : QueryTree) (fields : List Field) (table : Table) (doc : ℕ) → IsLawfulTable fields table
    → Contains (hits query table) doc ↔ IsSomeAnd (document_at table doc) (Matches query)
hits_are_matches query fields table doc lawful = (
  λ hit. kept_then (matches query) (document_at table doc) (subst IsSome (found query fields table doc lawful)
      (IsSome-lookup_from_Contains (eq_by_cmp_equiv nat_cmp_total) doc (filter (λ e. matches query e.1) table) hit)),
  λ match. Contains-keys_from_lookup (tells_apart exact_unsigned) doc (filter (λ e. matches query e.1) table)
      (subst IsSome (sym (found query fields table doc lawful)) (then_kept (matches query) (document_at table doc) match)),
)
