-- Steps of walks over values and weights in any form, as of maps: a and b are the weights added before and after a step.
use Rattle.std.proofs.Common.{◌≡◌, ℕ, ℤ, false, Option, Some, None}
use Rattle.std.proofs.Common.{nat_cmp, is_eq, sym, ap, ◌∙◌}
use Rattle.std.proofs.lemmas.Cmp.{nat_cmp_total}
use Rattle.std.specs.BTreeMap.{insert_entry, is_at}
use Rattle.std.specs.Map.{lookup, remove_entry}
use Rattle.attr_types.proofs.EntryLemmas.{sorted-insert, sorted-remove}
use Rattle.attr_types.specs.Value.{value_cmp}
use Rattle.attr_types.specs.declared.value.Value.{Value}
use Rattle.index_model.proofs.PartLemmas.{insert_same}
use Rattle.index_model.proofs.ChangeLemmas.{by_value}
use Rattle.index_model.proofs.ListLemmas.{list_of-with_list_here, list_of-with_list_other, formed-with_list, list_of-sorted}
use Rattle.index_model.specs.Index.{Index, list_of, with_list, with_posting, without_posting}
use Rattle.index_model.specs.Changes.{settled, IsBetween}

module _ (start : Index) (doc : ℕ) (index : Index) (value : Value) (weight : ℤ) (a b : Value → Option ℤ)
    (others : (q : Value) → is_eq (value_cmp q value) ≡ false → b q ≡ a q) where
  pub put_step : IsBetween start doc a (λ q. None) index → a value ≡ None → b value ≡ Some weight
      → IsBetween start doc b (λ q. None) (with_posting value doc weight index)
  put_step p none some =
      let docs = insert_entry nat_cmp (list_of value index) doc weight in
      record {
        formed = formed-with_list value docs index p.formed (sorted-insert nat_cmp_total (list_of value index) doc weight (list_of-sorted value index p.formed));
        lists = by_value (λ q. list_of q (with_list value docs index) ≡ settled (b q) None doc (list_of q start)) value
            (list_of-with_list_here value docs index p.formed
            ∙ ap (λ ds. insert_entry nat_cmp ds doc weight) (p.lists value ∙ ap (λ o. settled o None doc (list_of value start)) none)
            ∙ ap (λ o. settled o None doc (list_of value start)) (sym some))
            (λ q apart. list_of-with_list_other value docs index q p.formed apart ∙ p.lists q
            ∙ ap (λ o. settled o None doc (list_of q start)) (sym (others q apart)));
      }

  pub same_step : IsBetween start doc a (λ q. None) index → a value ≡ None → b value ≡ Some weight
      → lookup (is_at (nat_cmp doc)) (list_of value start) ≡ Some weight → IsBetween start doc b (λ q. None) index
  same_step p none some had =
      let same = p.lists value ∙ ap (λ o. settled o None doc (list_of value start)) none in
      record {
        formed = p.formed;
        lists = by_value (λ q. list_of q index ≡ settled (b q) None doc (list_of q start)) value
            (sym (insert_same doc weight (list_of value index) (list_of-sorted value index p.formed) (ap (lookup (is_at (nat_cmp doc))) same ∙ had))
            ∙ ap (λ ds. insert_entry nat_cmp ds doc weight) same
            ∙ ap (λ o. settled o None doc (list_of value start)) (sym some))
            (λ q apart. p.lists q ∙ ap (λ o. settled o None doc (list_of q start)) (sym (others q apart)));
      }

  module _ (new : Value → Option ℤ) where
    pub take_step : IsBetween start doc new a index → new value ≡ None → a value ≡ None → b value ≡ Some weight
        → IsBetween start doc new b (without_posting value doc index)
    take_step p gone none some =
        let docs = remove_entry (is_at (nat_cmp doc)) (list_of value index) in
        record {
          formed = formed-with_list value docs index p.formed
              (sorted-remove nat_cmp (is_at (nat_cmp doc)) (list_of value index) (list_of-sorted value index p.formed));
          lists = by_value (λ q. list_of q (with_list value docs index) ≡ settled (new q) (b q) doc (list_of q start)) value
              (list_of-with_list_here value docs index p.formed
              ∙ ap (remove_entry (is_at (nat_cmp doc))) (p.lists value
              ∙ ap (λ o. settled o (a value) doc (list_of value start)) gone ∙ ap (λ o. settled None o doc (list_of value start)) none)
              ∙ ap (λ o. settled None o doc (list_of value start)) (sym some)
              ∙ ap (λ o. settled o (b value) doc (list_of value start)) (sym gone))
              (λ q apart. list_of-with_list_other value docs index q p.formed apart ∙ p.lists q
              ∙ ap (λ o. settled (new q) o doc (list_of q start)) (sym (others q apart)));
        }

    pub stay_step : (other : ℤ) → IsBetween start doc new a index → new value ≡ Some other → IsBetween start doc new b index
    stay_step other p stays = record {
      formed = p.formed;
      lists = by_value (λ q. list_of q index ≡ settled (new q) (b q) doc (list_of q start)) value
          (p.lists value ∙ ap (λ o. settled o (a value) doc (list_of value start)) stays
          ∙ ap (λ o. settled o (b value) doc (list_of value start)) (sym stays))
          (λ q apart. p.lists q ∙ ap (λ o. settled (new q) o doc (list_of q start)) (sym (others q apart)));
    }
