-- Documents of a save, put in one after another.
use Rattle.std.proofs.Common.{◌≡◌, ℕ, ◌+◌, List, [], ◌∷◌, ◌++◌, length, take, Ok, Some, refl, sym, subst, ◌∙◌, ap, arith, append-nil, length-append}
use Rattle.std.proofs.lemmas.Grind.{common_steps}
use Rattle.std.specs.List.{AllByRecursion}
use Rattle.std.specs.Prelude.{slice_get}
use Rattle.attr_saver.specs.Fields.{read_of}
use Rattle.attr_saver.specs.Lawful.{docs_of, IsLawfulSaved}
use Rattle.attr_saver.specs.declared.saved.Saved.{Saved}
use Rattle.attr_saver.specs.declared.saved.SavedDocument.{SavedDocument}
use Rattle.attr_types.specs.Lawful.{IsDocNumber, ItemsFit, OpFits}
use Rattle.attr_types.specs.Table.{Table, after_op, after_ops}
use Rattle.attr_types.specs.declared.field.Field.{Field}
use Rattle.attr_types.specs.declared.op.Op.{Op}
use Rattle.attr_types.specs.declared.kind.Kind.{Kind}
use Rattle.attr_types.specs.declared.kind.ValueType.{ValueType}
use Rattle.attr_c.specs.Feeding.{Stays}
use Rattle.attr_c.specs.Loading.{put_of, puts_of, AreFirstOf, ArePuts, PutsIn, PutsFront, IsNextPut, IsSaveOf, LoadsSave, LoadsFront}

after_puts : (fields : List Field) (documents : List SavedDocument) (one : SavedDocument) (table : Table)
    → after_ops fields table (puts_of (documents ++ one ∷ [])) ≡ after_op fields (after_ops fields table (puts_of documents)) (put_of one)
after_puts fields [] one table = refl
after_puts fields (first ∷ documents) one table = after_puts fields documents one (after_op fields table (put_of first))

take_front : (front rest : List SavedDocument) → front ≡ take (length front) (front ++ rest)
take_front [] rest = refl
take_front (first ∷ front) rest = ap (λ (xs : List SavedDocument). first ∷ xs) (take_front front rest)

-- one document more is behind
pub moved_on : (front rest left all : List SavedDocument) (one : SavedDocument) → rest ≡ one ∷ left → front ++ rest ≡ all → (front ++ one ∷ []) ++ left ≡ all
moved_on front rest left all one is whole = grind (arith, common_steps)

-- what holds of all documents holds of the next one
pub one_of_all : (P : SavedDocument → Type 0) (front rest left all : List SavedDocument) (one : SavedDocument) → rest ≡ one ∷ left → front ++ rest ≡ all → AllByRecursion P all → P one
one_of_all P [] rest left all one is whole each =
    let these : AllByRecursion P (one ∷ left) = subst (AllByRecursion P) (sym whole ∙ is) each in
    these.0
one_of_all P (first ∷ front) rest left all one is whole each =
    let these : AllByRecursion P (first ∷ front ++ rest) = subst (AllByRecursion P) (sym whole) each in
    one_of_all P front rest left (front ++ rest) one is refl these.1

-- the document after a front is the next one
get_behind : (front left : List SavedDocument) (one : SavedDocument) → slice_get (front ++ one ∷ left) (length front) ≡ Some one
get_behind [] left one = refl
get_behind (first ∷ front) left one = get_behind front left one

pub next_put : (fields : List Field) (front rest left all : List SavedDocument) (one : SavedDocument) (old mid : Table) (before between after : ℕ) → rest ≡ one ∷ left → front ++ rest ≡ all
    → PutsIn fields front old mid before between → after ≡ between → (op : Op) → op ≡ put_of one → IsNextPut all before after op
next_put fields front rest left all one old mid before between after is whole puts stays op op_is = record {
  done = length front;
  so_far = stays ∙ puts.operations;
  document = one;
  at = ap (λ (xs : List SavedDocument). slice_get xs (length front)) (sym whole ∙ ap (λ (xs : List SavedDocument). front ++ xs) is) ∙ get_behind front left one;
  puts = op_is;
}

-- the documents of a lawful save fit its attribute
fit_one : (field : Field) (kind : Kind) (type : ValueType) → kind ≡ field.kind → type ≡ field.value → (documents : List SavedDocument) → AllByRecursion IsDocNumber (docs_of documents)
    → AllByRecursion (λ d. ItemsFit kind type d.items) documents → AllByRecursion (λ d. OpFits (field ∷ []) (put_of d)) documents
fit_one field kind type kind_is type_is [] numbers items = tt
fit_one field kind type kind_is type_is (d ∷ documents) numbers items =
    let own = subst (λ (k : Kind). ItemsFit k field.value d.items) kind_is (subst (λ (t : ValueType). ItemsFit kind t d.items) type_is items.0) in
    ((numbers.0, (own, tt)), fit_one field kind type kind_is type_is documents numbers.1 items.1)

pub puts_fit : (fields : List Field) (saved : Saved) → IsSaveOf fields saved → IsLawfulSaved saved → AllByRecursion (λ d. OpFits fields (put_of d)) saved.table
puts_fit fields saved is_of lawful =
    subst (λ (fs : List Field). AllByRecursion (λ d. OpFits fs (put_of d)) saved.table) (sym is_of.sole)
    (fit_one is_of.field saved.kind saved.value is_of.kind is_of.value saved.table lawful.column.numbers lawful.column.items)

-- the first documents of a save of the attribute
pub first_of : (fields : List Field) (bytes : List ℕ) (saved : Saved) → read_of bytes ≡ Ok saved → IsSaveOf fields saved → (documents : List SavedDocument)
    → documents ≡ take (length documents) saved.table → AreFirstOf fields bytes documents
first_of fields bytes saved reads is_of documents front = record {
  front = λ other says. let same : saved ≡ other = cc in front ∙ ap (λ (s : Saved). take (length documents) s.table) same;
  broken = λ place says. cc;
  other = λ is. let says = is.reads in let same : saved ≡ is.saved = cc in absurd (is.other (subst (IsSaveOf fields) same is_of));
}

pub none_are_first : (fields : List Field) (bytes : List ℕ) → AreFirstOf fields bytes []
none_are_first fields bytes = record { front = λ saved says. refl; broken = λ place says. refl; other = λ is. refl }

-- no operation puts in no document
pub no_puts : (which : List SavedDocument → Type 0) → which [] → ArePuts which []
no_puts which is = record { documents = []; which_are = is; ops_are = refl }

puts_end : (documents : List SavedDocument) (one : SavedDocument) → puts_of documents ++ put_of one ∷ [] ≡ puts_of (documents ++ one ∷ [])
puts_end [] one = refl
puts_end (first ∷ documents) one = ap (λ (os : List Op). put_of first ∷ os) (puts_end documents one)

-- one document more is put in
pub puts_one_more : (documents : List SavedDocument) (one : SavedDocument) (xs ys : List Op) → xs ≡ puts_of documents → ys ≡ put_of one ∷ [] → xs ++ ys ≡ puts_of (documents ++ one ∷ [])
puts_one_more documents one xs ys first second =
    ap (λ (os : List Op). os ++ ys) first ∙ ap (λ (os : List Op). puts_of documents ++ os) second ∙ puts_end documents one

-- what was put in of documents is a front of them
pub puts_before : (front rest all : List SavedDocument) (xs ys : List Op) → front ++ rest ≡ all → xs ≡ puts_of front → ys ≡ [] → ArePuts (λ f. f ≡ take (length f) all) (xs ++ ys)
puts_before front rest all xs ys whole first none = record {
  documents = front;
  which_are = take_front front rest ∙ ap (take (length front)) whole;
  ops_are = ap (λ (os : List Op). xs ++ os) none ∙ append-nil xs ∙ first;
}

-- a front of the documents of a save of the attribute
pub first_puts : (fields : List Field) (bytes : List ℕ) (saved : Saved) → read_of bytes ≡ Ok saved → IsSaveOf fields saved → (all : List SavedDocument) → all ≡ saved.table
    → (ops : List Op) → ArePuts (λ f. f ≡ take (length f) all) ops → ArePuts (AreFirstOf fields bytes) ops
first_puts fields bytes saved reads is_of all same ops are = record {
  documents = are.documents;
  which_are = first_of fields bytes saved reads is_of are.documents (are.which_are ∙ ap (take (length are.documents)) same);
  ops_are = are.ops_are;
}

module _ (fields : List Field) (old : Table) (before : ℕ) where
  pub puts_none : PutsIn fields [] old old before before
  puts_none = record { table = refl; operations = omega arith }

  pub puts_more : (documents : List SavedDocument) (one : SavedDocument) (mid new : Table) (between after : ℕ) → PutsIn fields documents old mid before between → new ≡ after_op fields mid (put_of one)
      → after ≡ between + 1 → PutsIn fields (documents ++ one ∷ []) old new before after
  puts_more documents one mid new between after puts table operations =
      let was = puts.operations in
      let long = length-append documents (one ∷ []) in
      record {
        table = table ∙ ap (λ (t : Table). after_op fields t (put_of one)) puts.table ∙ sym (after_puts fields documents one old);
        operations = omega (arith, operations, was, long);
      }

  pub puts_front : (documents rest all : List SavedDocument) (mid new : Table) (between after : ℕ) → documents ++ rest ≡ all → PutsIn fields documents old mid before between → Stays mid new between after
      → PutsFront fields all old new before after
  puts_front documents rest all mid new between after whole puts stays = record {
    documents = documents;
    puts = record { table = stays.table ∙ puts.table; operations = stays.operations ∙ puts.operations };
    front = take_front documents rest ∙ ap (take (length documents)) whole;
  }

  module _ (bytes : List ℕ) (new : Table) (after : ℕ) where
    pub loads_whole : (saved : Saved) → read_of bytes ≡ Ok saved → IsSaveOf fields saved → PutsIn fields saved.table old new before after → LoadsSave fields bytes old new before after
    loads_whole saved reads is_of puts = record { saved = saved; reads = reads; is_of = is_of; puts = puts }

    pub loads_front : (saved : Saved) → read_of bytes ≡ Ok saved → IsSaveOf fields saved → PutsFront fields saved.table old new before after → LoadsFront fields bytes old new before after
    loads_front saved reads is_of front = record {
      documents = front.documents;
      puts = front.puts;
      first = first_of fields bytes saved reads is_of front.documents front.front;
    }

    pub loads_none : Stays old new before after → LoadsFront fields bytes old new before after
    loads_none stays = record {
      documents = [];
      puts = record { table = stays.table; operations = let same = stays.operations in omega (arith, same) };
      first = none_are_first fields bytes;
    }
