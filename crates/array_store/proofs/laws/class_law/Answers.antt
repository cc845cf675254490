use Rattle.image_format.proofs.RootLemmas.{length-filled}
use Rattle.array_store.proofs.ClassLemmas.{class_holds, class_least, class_width, class_no_node}
use Rattle.array_store.proofs.laws.class_law.Goals as goal

pub returns-clause-holds : goal.returns-clause-holds
returns-clause-holds c = class_holds

pub returns-clause-least : goal.returns-clause-least
returns-clause-least c = class_least

pub returns-clause-width : goal.returns-clause-width
returns-clause-width c = class_width

pub returns-clause-no_node : goal.returns-clause-no_node
returns-clause-no_node c = class_no_node

pub returns-clause-record : goal.returns-clause-record
returns-clause-record c = length-filled
