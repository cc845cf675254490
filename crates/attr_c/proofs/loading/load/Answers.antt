use Rattle.std.proofs.Common.{◌≡◌, ◌++◌, [], ap, List, length, take, refl, sym, subst, rules}
use Rattle.std.specs.List.{AllByRecursion}
use Rattle.std.proofs.lemmas.Result.{IfErr-weaker, IfOk-weaker}
use Rattle.attr_saver.specs.declared.saved.SavedDocument.{SavedDocument}
use Rattle.attr_types.specs.Lawful.{OpFits}
use Rattle.attr_types.specs.declared.op.Op.{Op}
use Rattle.attr_c.specs.Loading.{put_of, puts_of, AreAllOf, AreFirstOf, ArePuts, IsNextLoaded, IsNextPut, IsSaveOf, PutsFront, PutsIn}
use Rattle.attr_c.proofs.ApplyingLemmas.{applies_none, applies_wider}
use Rattle.attr_c.proofs.EndLemmas.{load_or, on_ok_map, place_left, save_or, stops_since}
use Rattle.attr_c.proofs.LoadLemmas.{first_puts, loads_front, loads_none, loads_whole, no_puts, none_are_first, puts_fit}
use Rattle.attr_operations.proofs.StepLemmas.{keeps_same}
use Rattle.attr_c.specs.declared.told.Told.{Told}
use Rattle.attr_c.proofs.loading.load.Goals as goal

pub returns-in-Err-clause-front : goal.returns-in-Err-clause-front
returns-in-Err-clause-front g c =
    let was = c.args.inner.now in
    loads_none was.fields was.attribute.table was.attribute.operations c.args.bytes.now was.attribute.table was.attribute.operations (record { table = refl; operations = refl })

pub returns-then-not-is_of_fields-clause-front : goal.returns-then-not-is_of_fields-clause-front
returns-then-not-is_of_fields-clause-front g c =
    let was = c.args.inner.now in
    loads_none was.fields was.attribute.table was.attribute.operations c.args.bytes.now was.attribute.table was.attribute.operations (record { table = refl; operations = refl })

pub returns-clause-whole : goal.returns-clause-whole
returns-clause-whole g c =
    let was = c.args.inner.now in
    let now = c.put_all.new.inner.attribute in
    let is_of : IsSaveOf was.fields c.in-Ok.saved = c.is_of_fields.ensures.yes c.if-not-is_of_fields.false in
    IfOk-weaker c.put_all.result _ _
    (λ u puts. loads_whole was.fields was.attribute.table was.attribute.operations c.args.bytes.now now.table now.operations c.in-Ok.saved c.in-Ok.ensures.saved is_of
    (subst (λ (list : List SavedDocument). PutsIn was.fields list was.attribute.table now.table was.attribute.operations now.operations) c.into_vec.ensures puts))
    c.put_all.ensures.whole

pub returns-clause-front : goal.returns-clause-front
returns-clause-front g c =
    let was = c.args.inner.now in
    let now = c.put_all.new.inner.attribute in
    let is_of : IsSaveOf was.fields c.in-Ok.saved = c.is_of_fields.ensures.yes c.if-not-is_of_fields.false in
    IfErr-weaker c.put_all.result _ _
    (λ stop front. loads_front was.fields was.attribute.table was.attribute.operations c.args.bytes.now now.table now.operations c.in-Ok.saved c.in-Ok.ensures.saved is_of
    (subst (λ (list : List SavedDocument). PutsFront was.fields list was.attribute.table now.table was.attribute.operations now.operations) c.into_vec.ensures front))
    c.put_all.ensures.front

pub put_all-requires : goal.put_all-requires
put_all-requires g c =
    let fields = c.args.inner.now.fields in
    let is_of : IsSaveOf fields c.in-Ok.saved = c.is_of_fields.ensures.yes c.if-not-is_of_fields.false in
    let fit = subst (λ (list : List SavedDocument). AllByRecursion (λ d. OpFits fields (put_of d)) list) (sym c.into_vec.ensures) (puts_fit fields c.in-Ok.saved is_of c.in-Ok.ensures.lawful) in
    (search rules, fit)

pub returns-in-Err-clause-why : goal.returns-in-Err-clause-why
returns-in-Err-clause-why g c =
    let was = c.args.inner.now in
    let bytes = c.args.bytes.now in
    let ops = was.attribute.operations in
    save_or g.S.Store.ledger g.S.Frozen.records (ArePuts (AreFirstOf was.fields bytes)) (IsNextLoaded bytes ops ops) was.attribute was.attribute _ _ _ c.in-Err.stop
    (applies_none g.S.Store.ledger _ was.attribute (no_puts _ (none_are_first was.fields bytes))) c.in-Err.ensures.why

pub returns-then-not-is_of_fields-clause-why : goal.returns-then-not-is_of_fields-clause-why
returns-then-not-is_of_fields-clause-why g c =
    let was = c.args.inner.now in (
      record { saved = c.in-Ok.saved; reads = c.in-Ok.ensures.saved; other = c.is_of_fields.ensures.no c.if-not-is_of_fields.true },
      applies_none g.S.Store.ledger _ was.attribute (no_puts _ (none_are_first was.fields c.args.bytes.now)),
    )

pub returns-clause-why : goal.returns-clause-why
returns-clause-why g c =
    let was = c.args.inner.now in
    let now = c.put_all.new.inner.attribute in
    let ledger = g.S.Store.ledger in
    let records = g.S.Frozen.records in
    let bytes = c.args.bytes.now in
    let ops = was.attribute.operations in
    let all = c.into_vec.result.items in
    let is_of : IsSaveOf was.fields c.in-Ok.saved = c.is_of_fields.ensures.yes c.if-not-is_of_fields.false in
    let which = ArePuts (AreFirstOf was.fields bytes) in
    let next = IsNextLoaded bytes ops now.operations in
    let nothing : List Op → Type 0 = λ os. os ≡ [] in
    IfErr-weaker c.put_all.result _ _
    (λ stop why. load_or ledger records which next was.attribute now _ _ _ _ stop
    (stops_since ledger records nothing (ArePuts (λ front. front ≡ take (length front) all)) which (IsNextPut all ops now.operations) next was.attribute was.attribute now
    (λ xs ys none puts. subst (λ (os : List Op). which (os ++ ys)) (sym none) (first_puts was.fields bytes c.in-Ok.saved c.in-Ok.ensures.saved is_of all c.into_vec.ensures ys puts))
    (λ op is. record {
      saved = c.in-Ok.saved;
      reads = c.in-Ok.ensures.saved;
      is_next = subst (λ (list : List SavedDocument). IsNextPut list ops now.operations op) c.into_vec.ensures is;
    })
    (applies_none ledger nothing was.attribute refl) stop why))
    c.put_all.ensures.why

pub returns-clause-done : goal.returns-clause-done
returns-clause-done g c =
    let all = c.into_vec.result.items in
    on_ok_map c.put_all.result
    (applies_wider g.S.Store.ledger (λ ops. ops ≡ puts_of all) (ArePuts (AreAllOf c.args.bytes.now)) c.args.inner.now.attribute c.put_all.new.inner.attribute
    (λ ops same. record { documents = all; which_are = record { saved = c.in-Ok.saved; reads = c.in-Ok.ensures.saved; all = c.into_vec.ensures }; ops_are = same })) c.put_all.ensures.done

pub returns-in-Err-clause-keeps : goal.returns-in-Err-clause-keeps
returns-in-Err-clause-keeps g c = keeps_same (g.S.Store.ledger c.args.inner.now.attribute.store)

pub returns-then-not-is_of_fields-clause-keeps : goal.returns-then-not-is_of_fields-clause-keeps
returns-then-not-is_of_fields-clause-keeps g c = keeps_same (g.S.Store.ledger c.args.inner.now.attribute.store)

pub returns-clause-place : goal.returns-clause-place
returns-clause-place g c =
    IfErr-weaker c.put_all.result _ _ (λ stop u. place_left c.args.told.now c.saved_in.new.told stop (ap (λ (t : Told). t.place) c.in-Ok.ensures.tells)) c.put_all.ensures.why
