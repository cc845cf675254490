-- What an attribute in a store is: the laws, by those of its documents and of its index.
use Rattle.std.proofs.Common.{◌++◌, refl, sym, subst, inl, inr}
use Rattle.entry_ref.proofs.Among.{Among-append}
use Rattle.tree_read.specs.ProofsForTrees.{SameAt-left, SameAt-right}
use Rattle.tree_read.specs.Trees.{tree_nodes}
use Rattle.attr_field.specs.Documents.{documents_own, documents_refer}
use Rattle.attr_field.specs.DocumentsLaws.{NothingIsDocuments, DocumentsStay, DocumentsAreLawful, DocumentsReach}
use Rattle.image_format.specs.Documents.{column_at, documents_reach}
use Rattle.image_format.specs.Postings.{index_of}
use Rattle.index_model.proofs.OfLemmas.{empty_index, has_values, has_lists}
use Rattle.index_model.specs.Index.{IsIndexOf}
use Rattle.value_index.proofs.KeyLemmas.{among_left, among_right}
use Rattle.value_index.specs.Indexes.{index_reach}
use Rattle.value_index.specs.Laws.{NothingIsIndex, IndexStays, IndexIsLawful, FormStays, KeyIsRead}
use Rattle.attr_field.specs.Laws.{NothingIsField, FieldStays, FieldIsLawful, FieldOwnsKeys, FieldReaches, FieldReachesOwn}

pub field_nothing : NothingIsDocuments → NothingIsIndex → NothingIsField
field_nothing documents index kind type m = (
  record {
    documents_are = (documents kind type m).0;
    index_is = (index type m).0;
    index_of_documents = empty_index;
  },
  refl,
  refl,
)

pub field_stays : DocumentsStay → IndexStays → FormStays → FieldStays
field_stays documents_stay index_stays form_stays kind type m n documents dictionary same refer is =
    let own = SameAt-left m n (documents_own kind m documents) (index_reach m dictionary) same in
    let rest = SameAt-right m n (documents_own kind m documents) (index_reach m dictionary) same in
    let index = index_stays type m n dictionary rest is.index_is in
    let stay = documents_stay kind type m n documents own refer is.documents_are in
    record {
      field_is = record {
        documents_are = stay.0;
        index_is = index.0;
        index_of_documents = subst (λ column. IsIndexOf column (index_of type n dictionary)) (sym stay.1)
            (subst (λ index. IsIndexOf (column_at kind type m documents) index) (sym index.1) is.index_of_documents);
      };
      column_is = stay.1;
      refers = stay.2;
      keys = index.2;
      form = form_stays type m n dictionary rest;
    }

pub field_lawful : DocumentsAreLawful → IndexIsLawful → FieldIsLawful
field_lawful documents index kind type m D I is =
    let d = documents kind type m D is.documents_are in
    let i = index type m I is.index_is in
    record {
      forms = record { documents_tree = d.0; items = d.1; dictionary_tree = i.dictionary_tree; entries = i.entries };
      column = d.2;
      values = has_values (column_at kind type m D) (index_of type m I) is.index_of_documents;
      lists = has_lists (column_at kind type m D) (index_of type m I) is.index_of_documents;
    }

pub field_owns_keys : KeyIsRead → FieldOwnsKeys
field_owns_keys key_read kind type m D I r is key = among_right r (documents_own kind m D) (index_reach m I) (key_read type m I r is.index_is key).owned

pub field_reaches : DocumentsReach → FieldReaches
field_reaches documents kind m D I r = (
  λ among. elim (Among-append r (tree_nodes m D ++ documents_reach kind m D) (index_reach m I) among) [
    | inl here ↦ elim (Among-append r (documents_own kind m D) (documents_refer kind m D) ((documents kind m D r).0 here)) [
      | inl own ↦ inl (among_left r (documents_own kind m D) (index_reach m I) own)
      | inr refer ↦ inr refer
    ]
    | inr there ↦ inl (among_right r (documents_own kind m D) (index_reach m I) there)
  ],
  λ either. elim either [
    | inl owned ↦ elim (Among-append r (documents_own kind m D) (index_reach m I) owned) [
      | inl own ↦ among_left r (tree_nodes m D ++ documents_reach kind m D) (index_reach m I)
          ((documents kind m D r).1 (among_left r (documents_own kind m D) (documents_refer kind m D) own))
      | inr there ↦ among_right r (tree_nodes m D ++ documents_reach kind m D) (index_reach m I) there
    ]
    | inr refer ↦ among_left r (tree_nodes m D ++ documents_reach kind m D) (index_reach m I)
        ((documents kind m D r).1 (among_right r (documents_own kind m D) (documents_refer kind m D) refer))
  ],
)

pub field_reaches_own : DocumentsReach → KeyIsRead → FieldReachesOwn
field_reaches_own documents key_read kind type m D I r is refers = (
  λ among. elim ((field_reaches documents kind m D I r).0 among) [
    | inl own ↦ own
    | inr refer ↦ field_owns_keys key_read kind type m D I r is (refers.each r refer)
  ],
  λ own. (field_reaches documents kind m D I r).1 (inl own),
)
