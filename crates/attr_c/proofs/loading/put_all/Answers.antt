use Rattle.std.proofs.Common.{◌≡◌, [], ◌∷◌, ◌++◌, List, length, take, ap, refl, subst, sym, ◌∙◌, rules}
use Rattle.std.specs.Vec.Iter.{into_iter_items}
use Rattle.attr_saver.specs.declared.saved.SavedDocument.{SavedDocument}
use Rattle.attr_types.specs.Lawful.{OpFits}
use Rattle.attr_types.specs.Table.{after_op}
use Rattle.attr_types.specs.declared.field.Field.{Field}
use Rattle.attr_c.specs.Loading.{put_of, puts_of, ArePuts, IsNextPut}
use Rattle.attr_operations.proofs.StepLemmas.{keeps_same}
use Rattle.compaction_steps.proofs.WalkLemmas.{keeps_then}
use Rattle.attr_c.proofs.ApplyingLemmas.{applies_none, applies_then}
use Rattle.attr_c.proofs.EndLemmas.{stops_since}
use Rattle.attr_c.proofs.LoadLemmas.{moved_on, next_put, one_of_all, puts_before, puts_front, puts_more, puts_none, puts_one_more}
use Rattle.attr_c.proofs.loading.put_all.Goals as goal

pub loop-document-init : goal.loop-document-init
loop-document-init g c = record {
  puts = puts_none c.args.inner.now.fields c.args.inner.now.attribute.table c.args.inner.now.attribute.operations;
  pool = refl;
  counts = refl;
  fields = refl;
  dense = refl;
  keeps = keeps_same (g.S.Store.ledger c.args.inner.now.attribute.store);
  plan = refl;
  done = applies_none g.S.Store.ledger (λ ops. ops ≡ []) c.args.inner.now.attribute refl;
  commit = record { table = refl; operations = refl };
  all = search rules;
}

pub loop-document-preserved : goal.loop-document-preserved
loop-document-preserved g c =
    let ledger = g.S.Store.ledger in
    let was = c.args.inner.now in
    let mid = c.loop-document.inner.attribute in
    let now = c.put_document.new.inner.attribute in
    let i = c.loop-document.invariant in
    let one = c.in-Some.document in
    let rest : into_iter_items c.loop-document.document-iterator ≡ one ∷ into_iter_items c.next.new.self = search rules in
    let table = c.in-Ok.ensures.table ∙ ap (λ (fs : List Field). after_op fs mid.table (put_of one)) i.fields in
    record {
      puts = puts_more was.fields was.attribute.table was.attribute.operations c.loop-document.yielded one mid.table now.table mid.operations now.operations i.puts table
          c.in-Ok.ensures.operations;
      pool = c.in-Ok.ensures.pool ∙ i.pool;
      counts = c.in-Ok.ensures.counts ∙ i.counts;
      fields = c.in-Ok.ensures.fields ∙ i.fields;
      dense = c.in-Ok.ensures.dense ∙ i.dense;
      keeps = keeps_then (ledger was.attribute.store) (ledger mid.store) (ledger now.store) i.keeps c.in-Ok.ensures.keeps;
      plan = c.in-Ok.ensures.plan ∙ i.plan;
      done = applies_then ledger (λ ops. ops ≡ puts_of c.loop-document.yielded) (λ ops. ops ≡ put_of one ∷ []) (λ ops. ops ≡ puts_of (c.loop-document.yielded ++ one ∷ [])) was.attribute mid now
          (puts_one_more c.loop-document.yielded one) i.done c.in-Ok.ensures.done;
      commit = record { table = c.in-Ok.ensures.commit.table ∙ i.commit.table; operations = c.in-Ok.ensures.commit.operations ∙ i.commit.operations };
      all = moved_on c.loop-document.yielded (into_iter_items c.loop-document.document-iterator) (into_iter_items c.next.new.self) c.args.documents.items one rest i.all;
    }

pub returns-in-Err-clause-front : goal.returns-in-Err-clause-front
returns-in-Err-clause-front g c =
    let was = c.args.inner.now in
    let mid = c.loop-document.inner.attribute in
    let now = c.put_document.new.inner.attribute in
    let i = c.loop-document.invariant in
    puts_front was.fields was.attribute.table was.attribute.operations c.loop-document.yielded (into_iter_items c.loop-document.document-iterator) c.args.documents.items mid.table now.table
    mid.operations now.operations i.all i.puts c.in-Err.ensures.left

pub returns-in-Err-clause-why : goal.returns-in-Err-clause-why
returns-in-Err-clause-why g c =
    let was = c.args.inner.now.attribute in
    let mid = c.loop-document.inner.attribute in
    let now = c.put_document.new.inner.attribute in
    let i = c.loop-document.invariant in
    let one = c.in-Some.document in
    let rest : into_iter_items c.loop-document.document-iterator ≡ one ∷ into_iter_items c.next.new.self = search rules in
    stops_since g.S.Store.ledger g.S.Frozen.records (λ ops. ops ≡ puts_of c.loop-document.yielded) (λ ops. ops ≡ []) (ArePuts (λ front. front ≡ take (length front) c.args.documents.items))
    (λ next. next ≡ put_of one) (IsNextPut c.args.documents.items was.operations now.operations) was mid now
    (λ xs ys first none. puts_before c.loop-document.yielded (into_iter_items c.loop-document.document-iterator) c.args.documents.items xs ys i.all first none)
    (λ op is. next_put c.args.inner.now.fields c.loop-document.yielded (into_iter_items c.loop-document.document-iterator) (into_iter_items c.next.new.self) c.args.documents.items one was.table mid.table
    was.operations mid.operations now.operations rest i.all i.puts c.in-Err.ensures.left.operations op is)
    i.done c.in-Err.stop c.in-Err.ensures.why

pub returns-in-Err-clause-keeps : goal.returns-in-Err-clause-keeps
returns-in-Err-clause-keeps g c =
    let ledger = g.S.Store.ledger in
    keeps_then (ledger c.args.inner.now.attribute.store) (ledger c.loop-document.inner.attribute.store) (ledger c.put_document.new.inner.attribute.store) c.loop-document.invariant.keeps c.in-Err.ensures.keeps

pub returns-in-Err-clause-dense : goal.returns-in-Err-clause-dense
returns-in-Err-clause-dense g c = c.in-Err.ensures.dense ∙ c.loop-document.invariant.dense

pub put_document-requires : goal.put_document-requires
put_document-requires g c =
    let i = c.loop-document.invariant in
    let one = c.in-Some.document in
    let rest : into_iter_items c.loop-document.document-iterator ≡ one ∷ into_iter_items c.next.new.self = search rules in
    let fit = subst (λ (fs : List Field). OpFits fs (put_of one)) (sym i.fields)
    (one_of_all (λ (d : SavedDocument). OpFits c.args.inner.now.fields (put_of d)) c.loop-document.yielded (into_iter_items c.loop-document.document-iterator) (into_iter_items c.next.new.self)
    c.args.documents.items one rest i.all c.requires) in
    (search rules, fit)

pub returns-in-Err-clause-plan : goal.returns-in-Err-clause-plan
returns-in-Err-clause-plan g c = c.in-Err.ensures.plan ∙ c.loop-document.invariant.plan
