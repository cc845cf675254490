use Rattle.std.proofs.lemmas.Cmp.{nat_cmp_total}
use Rattle.std.specs.Ordering.{nat_cmp}
use Rattle.tree_read.proofs.PairLemmas.{lookup-put}
use Rattle.doc_vector.specs.Documents.{beside_document}
use Rattle.doc_vector.proofs.DocumentLemmas.{same_number, other_number}
use Rattle.doc_vector.proofs.MapLemmas.{put_others, take_out_others, take_out_gone}
use Rattle.doc_vector.proofs.laws.map_law.Goals as goal

pub returns-clause-found : goal.returns-clause-found
returns-clause-found c doc items ps = lookup-put (beside_document doc) (doc, items) ps (same_number doc)

pub returns-clause-others : goal.returns-clause-others
returns-clause-others c doc items other ps apart =
    put_others nat_cmp nat_cmp_total (λ k. k) doc other (other_number doc other apart) (doc, items) ps (same_number doc)

pub returns-clause-gone : goal.returns-clause-gone
returns-clause-gone c m doc ps up = take_out_gone nat_cmp nat_cmp_total (λ k. k) doc ps up

pub returns-clause-still : goal.returns-clause-still
returns-clause-still c m doc other ps up apart =
    take_out_others nat_cmp nat_cmp_total (λ k. k) doc other (other_number doc other apart) ps up
