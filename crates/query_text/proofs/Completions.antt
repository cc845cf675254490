-- Each front of a text that the machine has come through is the front of a query.
use Rattle.std.proofs.Common.{◌≡◌, ◌+◌, ◌-◌, ◌==◌, ◌&&◌, ℕ, pos, negsuc, List, [], ◌∷◌, ◌++◌, Bool, true, false, nat_lt, Option, Some, None, IfSome, refl, sym, ap, subst, ◌∙◌, append_assoc, append-nil, codes, arith}
use Rattle.std.specs.Option.{option_and_then, option_map}
use Rattle.std.specs.List.{flat_map}
use Rattle.std.proofs.lemmas.Grind.{flat_map-append}
use Rattle.std.proofs.lemmas.Bool.Decides.{nat_tests}
use Rattle.query_text.proofs.ListLemmas.{append-middle}
use Rattle.attr_types.specs.declared.kind.ValueType.{ValueType}
use Rattle.attr_types.specs.declared.value.Value.{Value}
use Rattle.attr_types.specs.declared.value.Value.TheVariants as values
use Rattle.attr_types.specs.declared.query.Leaf.{Leaf}
use Rattle.attr_types.specs.declared.query.Leaf.TheVariants as leaves
use Rattle.attr_types.specs.Value.{type_of}
use Rattle.query_text.specs.declared.mode.Role.{Role}
use Rattle.query_text.specs.declared.mode.Mode.{Mode}
use Rattle.query_text.specs.declared.mode.Mode.TheVariants as modes
use Rattle.query_text.specs.Grammar.{NamedTree, one, numeral, escaped, quoted, value_text, name_text, leaf_text, tree_text, IsFormedName, IsFormedLeaf, IsFormed}
use Rattle.query_text.specs.Modes.{next_mode}
use Rattle.query_text.specs.Survey.{depth_after, ends_value, ends_query}
use Rattle.query_text.proofs.Walks.{walk}
use Rattle.query_text.proofs.Fronts.{Stack, bottom, frame, word, with_comma, stack_text, stack_depth, StackFormed, base_text}
use Rattle.query_text.proofs.Fronts.{Lead, alone, below, above, low, high, high_number, high_text, lead_text, Partial, Front}
use Rattle.query_text.proofs.Steps.{step, trees, members_text, list_formed, joined_tree, joined_text, joined_formed}

-- the mode, and how many brackets are open
pub record Form : Type 0 where
  pub mode : Mode
  pub depth : ℕ

abbrev pub form_to : Form → Mode → Form
form_to form mode = record { mode = mode; depth = depth_after form.depth mode }

abbrev pub form_next : Form → ℕ → Option Form
form_next form byte = option_map (form_to form) (next_mode (nat_lt 0 form.depth) form.mode byte)

abbrev pub form_ends : Form → Bool
form_ends form = (form.depth == 0) && ends_query form.mode

abbrev pub form_start : Form
form_start = record { mode = modes.Start; depth = 0 }

-- one byte more
front_step : (text : List ℕ) (depth : ℕ) (mode : Mode) (byte : ℕ) → Front text depth mode
    → IfSome (next_mode (nat_lt 0 depth) mode byte) (λ next. Front (text ++ byte ∷ []) (depth_after depth next) next)
front_step text depth mode byte front =
    subst (λ text. IfSome (next_mode (nat_lt 0 depth) mode byte) (λ next. Front text (depth_after depth next) next))
    (sym (ap (λ text. text ++ byte ∷ []) front.whole ∙ append_assoc (base_text front.base) front.part (byte ∷ [])))
    (subst (λ depth. IfSome (next_mode (nat_lt 0 depth) mode byte)
    (λ next. Front (base_text front.base ++ (front.part ++ byte ∷ [])) (depth_after depth next) next)) front.deep
    (step front.base front.formed mode front.part byte front.partial))

front_through : (form last : Form) (text bytes : List ℕ) → Front text form.depth form.mode
    → walk form_next form bytes ≡ Some last → Front (text ++ bytes) last.depth last.mode
unfolding walk
front_through form last text [] front e =
    let same : form ≡ last = cc in
    subst (λ (s : Form). Front (text ++ []) s.depth s.mode) same (subst (λ t. Front t form.depth form.mode) (sym (append-nil text)) front)
front_through form last text (byte ∷ bytes) front e =
    (elim (next_mode (nat_lt 0 form.depth) form.mode byte) as (λ o. IfSome o (λ mode. Front (text ++ byte ∷ []) (depth_after form.depth mode) mode)
    → option_and_then (λ more. walk form_next more bytes) (option_map (form_to form) o) ≡ Some last → Front (text ++ (byte ∷ bytes)) last.depth last.mode) [
      | None ↦ λ f e. absurd cc
      | Some mode ↦ λ f e. subst (λ t. Front t last.depth last.mode) (append_assoc text (byte ∷ []) bytes)
          (front_through (form_to form mode) last (text ++ byte ∷ []) bytes f e)
    ]) (front_step text form.depth form.mode byte front) e

front_start : Front [] 0 modes.Start
front_start = record { base = (bottom, None); formed = (tt, tt); deep = refl; part = []; partial = (refl, refl); whole = refl }

-- a leaf that is completed
abbrev lead_tail : {type : ValueType} {role : Role} → Lead type role → List ℕ
lead_tail alone = []
lead_tail below = []
lead_tail above = []
lead_tail low = codes ";]"
lead_tail high = codes "]"
lead_tail (high_number z) = codes "]"
lead_tail (high_text bytes) = codes "]"

abbrev lead_leaf : {type : ValueType} {role : Role} → Lead type role → Value → Leaf
lead_leaf alone value = leaves.Is value
lead_leaf below value = leaves.Below value
lead_leaf above value = leaves.Above value
lead_leaf low value = leaves.Range (Some value) None
lead_leaf high value = leaves.Range None (Some value)
lead_leaf (high_number z) value = leaves.Range (Some (values.Long z)) (Some value)
lead_leaf (high_text bytes) value = leaves.Range (Some (values.Text bytes)) (Some value)

lead_formed : {type : ValueType} {role : Role} (lead : Lead type role) (value : Value) → type_of value ≡ type → IsFormedLeaf (lead_leaf lead value)
lead_formed alone value e = tt
lead_formed below value e = tt
lead_formed above value e = tt
lead_formed low value e = tt
lead_formed high value e = tt
lead_formed (high_number z) value e = sym e
lead_formed (high_text bytes) value e = sym e

lead_whole : {type : ValueType} {role : Role} (lead : Lead type role) (value : Value)
    → lead_text lead ++ (value_text value ++ lead_tail lead) ≡ leaf_text (lead_leaf lead value)
lead_whole alone value = append-nil (value_text value)
lead_whole below value = ap (λ t. codes "<" ++ t) (append-nil (value_text value))
lead_whole above value = ap (λ t. codes ">" ++ t) (append-nil (value_text value))
lead_whole low value = simp append_assoc
lead_whole high value = refl
lead_whole (high_number z) value = simp append_assoc
lead_whole (high_text bytes) value = simp append_assoc

-- what was read of a leaf is completed
abbrev pub LeafCompletes : List ℕ → Type 0
LeafCompletes part = (rest : List ℕ) × (leaf : Leaf) × IsFormedLeaf leaf × (part ++ rest ≡ leaf_text leaf)

lead_completes : {type : ValueType} {role : Role} (lead : Lead type role) (value : Value) (part rest : List ℕ) → type_of value ≡ type
    → part ++ rest ≡ lead_text lead ++ (value_text value ++ lead_tail lead) → LeafCompletes part
lead_completes lead value part rest e same = (rest, lead_leaf lead value, lead_formed lead value e, same ∙ lead_whole lead value)

-- what was read of a query is completed
abbrev Completes : Option (List ℕ) → List ℕ → Type 0
Completes name part = (rest : List ℕ) × (query : NamedTree) × IsFormed query × (name_text name ++ (part ++ rest) ≡ tree_text query)

leaf_completes : (name : Option (List ℕ)) (part : List ℕ) → IsFormedName name → LeafCompletes part → Completes name part
leaf_completes name part named (rest, leaf, good, same) = (rest, one name leaf, (named, good), ap (λ t. name_text name ++ t) same)

quoted_escape : (lead text tail : List ℕ) → (lead ++ (text ++ 92 ∷ [])) ++ (34 ∷ 34 ∷ tail) ≡ lead ++ (((text ++ (92 ∷ 34 ∷ [])) ++ 34 ∷ []) ++ tail)
quoted_escape lead text tail = simp append_assoc

completed : (name : Option (List ℕ)) → IsFormedName name → (mode : Mode) (part : List ℕ) → Partial name mode part → Completes name part
unfolding numeral
completed name named modes.Start part (none, is) = leaf_completes name part named (codes "0", leaves.Is (values.Long (pos 0)), tt, ap (λ p. p ++ codes "0") is)
completed name named modes.Opened part (none, is) = leaf_completes name part named (codes "0", leaves.Is (values.Long (pos 0)), tt, ap (λ p. p ++ codes "0") is)
completed name named (modes.Name spell) part (none, spelled) = (
  codes ":0",
  one (Some part) (leaves.Is (values.Long (pos 0))),
  (spelled.0, tt),
  ap (λ n. name_text n ++ (part ++ codes ":0")) none ∙ sym (append_assoc part (codes ":") (codes "0")),
)
completed name named modes.Named part is = leaf_completes name part named (codes "0", leaves.Is (values.Long (pos 0)), tt, ap (λ p. p ++ codes "0") is)
completed name named modes.Bound part (true, is) = leaf_completes name part named (codes "0", (leaves.Above (values.Long (pos 0))), tt, ap (λ p. p ++ codes "0") is)
completed name named modes.Bound part (false, is) = leaf_completes name part named (codes "0", (leaves.Below (values.Long (pos 0))), tt, ap (λ p. p ++ codes "0") is)
completed name named modes.Low part is = leaf_completes name part named (codes ";]", (leaves.Range None None), tt, ap (λ p. p ++ codes ";]") is)
completed name named modes.High part is = leaf_completes name part named (codes "]", (leaves.Range None None), tt, ap (λ p. p ++ codes "]") is)
completed name named modes.HighNumber part (z, is) = leaf_completes name part named (codes "]", (leaves.Range (Some (values.Long z)) None), tt, ap (λ p. p ++ codes "]") is ∙ simp append_assoc)
completed name named modes.HighText part (bytes, is) = leaf_completes name part named (codes "]", (leaves.Range (Some (values.Text bytes)) None), tt, ap (λ p. p ++ codes "]") is ∙ simp append_assoc)
completed name named (modes.Minus role) part (lead, is) =
    leaf_completes name part named (lead_completes lead (values.Long (negsuc 0)) part (codes "1" ++ lead_tail lead) refl
    (ap (λ p. p ++ (codes "1" ++ lead_tail lead)) is ∙ append_assoc (lead_text lead) (codes "-") (codes "1" ++ lead_tail lead)))
completed name named (modes.Number role false size) part (lead, n, is, sized) =
    leaf_completes name part named (lead_completes lead (values.Long (pos n)) part (lead_tail lead) refl
    (ap (λ p. p ++ lead_tail lead) is ∙ append_assoc (lead_text lead) (numeral n) (lead_tail lead)))
completed name named (modes.Number role true size) part (lead, n, is, sized, some) =
    let counted : n ≡ (n - 1) + 1 = omega arith in
    leaf_completes name part named (lead_completes lead (values.Long (negsuc (n - 1))) part (lead_tail lead) refl
    (ap (λ p. p ++ lead_tail lead) is ∙ append_assoc (lead_text lead) (45 ∷ numeral n) (lead_tail lead)
    ∙ ap (λ k. lead_text lead ++ ((45 ∷ numeral k) ++ lead_tail lead)) counted))
completed name named (modes.Text role len) part (lead, bytes, is) =
    leaf_completes name part named (lead_completes lead (values.Text bytes) part (34 ∷ lead_tail lead) refl
    (ap (λ p. p ++ (34 ∷ lead_tail lead)) is ∙ append-middle (lead_text lead) (34 ∷ flat_map escaped bytes) (34 ∷ []) (lead_tail lead)))
completed name named (modes.Escape role len) part (lead, bytes, is) =
    leaf_completes name part named (lead_completes lead (values.Text (bytes ++ 34 ∷ [])) part (34 ∷ 34 ∷ lead_tail lead) refl
    (ap (λ p. p ++ (34 ∷ 34 ∷ lead_tail lead)) is
    ∙ quoted_escape (lead_text lead) (34 ∷ flat_map escaped bytes) (lead_tail lead)
    ∙ ap (λ t. lead_text lead ++ (((34 ∷ t) ++ 34 ∷ []) ++ lead_tail lead)) (sym (flat_map-append escaped bytes (34 ∷ [])))))
completed name named (modes.Quoted role) part (lead, bytes, is) =
    leaf_completes name part named (lead_completes lead (values.Text bytes) part (lead_tail lead) refl
    (ap (λ p. p ++ lead_tail lead) is ∙ append_assoc (lead_text lead) (quoted bytes) (lead_tail lead)))
completed name named modes.Ended part (leaf, good, is) = leaf_completes name part named ([], leaf, good, append-nil part ∙ is)
completed name named modes.Closed part (none, query, good, is) =
    ([], query, good, ap (λ n. name_text n ++ (part ++ [])) none ∙ append-nil part ∙ is)

-- the open lists are closed
close_text : (front kind bracket members query : List ℕ) (rest : List ℕ)
    → (front ++ (kind ++ (bracket ++ members))) ++ (query ++ (41 ∷ rest)) ≡ front ++ ((kind ++ (bracket ++ ((members ++ query) ++ 41 ∷ []))) ++ rest)
close_text front kind bracket members query rest = simp append_assoc

closed : (stack : Stack) → StackFormed stack → (query : NamedTree) → IsFormed query
    → (rest : List ℕ) × (whole : NamedTree) × IsFormed whole × (stack_text stack ++ (tree_text query ++ rest) ≡ tree_text whole)
closed bottom formed query good = ([], query, good, append-nil (tree_text query))
closed (frame under kind members) formed query good =
    let list = trees (members ++ query ∷ []) in
    let more : (rest : List ℕ) × (whole : NamedTree) × IsFormed whole × (stack_text under ++ (tree_text (joined_tree kind list) ++ rest) ≡ tree_text whole) =
    closed under formed.0 (joined_tree kind list) (joined_formed kind list (list_formed members query formed.1 good)) in (
      41 ∷ more.0,
      more.1,
      more.2,
      close_text (stack_text under) (word kind) (codes "(") (flat_map with_comma members) (tree_text query) more.0
          ∙ sym (ap (λ t. stack_text under ++ (t ++ more.0)) (joined_text kind list
          ∙ ap (λ m. word kind ++ (codes "(" ++ (m ++ codes ")"))) (members_text members query)))
          ∙ more.3,
    )

front_text : (front name part rest more : List ℕ) → ((front ++ name) ++ part) ++ (rest ++ more) ≡ front ++ ((name ++ (part ++ rest)) ++ more)
front_text front name part rest more = simp append_assoc

-- a text is a query
abbrev pub IsQuery : List ℕ → Type 0
IsQuery text = (query : NamedTree) × IsFormed query × (text ≡ tree_text query)

-- a front goes on to a query
front_continues : (text : List ℕ) (depth : ℕ) (mode : Mode) → Front text depth mode → (rest : List ℕ) × IsQuery (text ++ rest)
front_continues text depth mode front =
    let here : Completes front.base.1 front.part = completed front.base.1 front.formed.1 mode front.part front.partial in
    let all : (rest : List ℕ) × (whole : NamedTree) × IsFormed whole × (stack_text front.base.0 ++ (tree_text here.1 ++ rest) ≡ tree_text whole) =
    closed front.base.0 front.formed.0 here.1 here.2 in (
      here.0 ++ all.0,
      (
        all.1,
        all.2,
        ap (λ t. t ++ (here.0 ++ all.0)) front.whole
            ∙ front_text (stack_text front.base.0) (name_text front.base.1) front.part here.0 all.0
            ∙ ap (λ t. stack_text front.base.0 ++ (t ++ all.0)) here.3
            ∙ all.3,
      ),
    )

pub form_continues : (text : List ℕ) (last : Form) → walk form_next form_start text ≡ Some last → (rest : List ℕ) × IsQuery (text ++ rest)
form_continues text last e = front_continues text last.depth last.mode (front_through form_start last [] text front_start e)

-- a front in which a query has ended is a query
no_tail : {type : ValueType} {role : Role} (lead : Lead type role) → ends_value role ≡ true → lead_tail lead ≡ []
no_tail alone h = refl
no_tail below h = refl
no_tail above h = refl
no_tail low h = absurd cc
no_tail high h = absurd cc
no_tail (high_number z) h = absurd cc
no_tail (high_text bytes) h = absurd cc

abbrev Whole : Option (List ℕ) → List ℕ → Type 0
Whole name part = (query : NamedTree) × IsFormed query × (name_text name ++ part ≡ tree_text query)

leaf_whole : (name : Option (List ℕ)) (part : List ℕ) → IsFormedName name → (leaf : Leaf) → IsFormedLeaf leaf → part ≡ leaf_text leaf → Whole name part
leaf_whole name part named leaf good is = (one name leaf, (named, good), ap (λ t. name_text name ++ t) is)

lead_ends : {type : ValueType} {role : Role} (name : Option (List ℕ)) (lead : Lead type role) (value : Value) (part : List ℕ) → IsFormedName name
    → ends_value role ≡ true → type_of value ≡ type → part ≡ lead_text lead ++ value_text value → Whole name part
lead_ends name lead value part named ends e is =
    leaf_whole name part named (lead_leaf lead value) (lead_formed lead value e)
    (is ∙ ap (λ t. lead_text lead ++ t) (sym (append-nil (value_text value)) ∙ sym (ap (λ t. value_text value ++ t) (no_tail lead ends)))
    ∙ lead_whole lead value)

ended : (name : Option (List ℕ)) → IsFormedName name → (mode : Mode) (part : List ℕ) → Partial name mode part → ends_query mode ≡ true → Whole name part
ended name named modes.Start part is h = absurd cc
ended name named modes.Opened part is h = absurd cc
ended name named (modes.Name spell) part is h = absurd cc
ended name named modes.Named part is h = absurd cc
ended name named modes.Bound part is h = absurd cc
ended name named modes.Low part is h = absurd cc
ended name named modes.High part is h = absurd cc
ended name named modes.HighNumber part is h = absurd cc
ended name named modes.HighText part is h = absurd cc
ended name named (modes.Minus role) part is h = absurd cc
ended name named (modes.Number role false size) part (lead, n, is, sized) h = lead_ends name lead (values.Long (pos n)) part named h refl is
ended name named (modes.Number role true size) part (lead, n, is, sized, some) h =
    let counted : n ≡ (n - 1) + 1 = omega arith in
    lead_ends name lead (values.Long (negsuc (n - 1))) part named h refl (is ∙ ap (λ k. lead_text lead ++ (45 ∷ numeral k)) counted)
ended name named (modes.Text role len) part is h = absurd cc
ended name named (modes.Escape role len) part is h = absurd cc
ended name named (modes.Quoted role) part (lead, bytes, is) h = lead_ends name lead (values.Text bytes) part named h refl is
ended name named modes.Ended part (leaf, good, is) h = leaf_whole name part named leaf good is
ended name named modes.Closed part (none, query, good, is) h = (query, good, ap (λ n. name_text n ++ part) none ∙ is)

no_frame : (stack : Stack) → stack_depth stack ≡ 0 → stack_text stack ≡ []
no_frame bottom e = refl
no_frame (frame under kind members) e = absurd (omega arith)

base_whole : (front name part : List ℕ) → front ≡ [] → (front ++ name) ++ part ≡ name ++ part
base_whole front name part none = ap (λ f. (f ++ name) ++ part) none

form_parts : (form : Form) → form_ends form ≡ true → (form.depth ≡ 0) × (ends_query form.mode ≡ true)
form_parts form h = (grind (arith, nat_tests), grind (arith, nat_tests))

pub form_whole : (text : List ℕ) (last : Form) → walk form_next form_start text ≡ Some last → form_ends last ≡ true → IsQuery text
form_whole text last e whole =
    let parts = form_parts last whole in
    let front = front_through form_start last [] text front_start e in
    let here : Whole front.base.1 front.part = ended front.base.1 front.formed.1 last.mode front.part front.partial parts.1 in (
      here.0,
      here.1,
      front.whole ∙ base_whole (stack_text front.base.0) (name_text front.base.1) front.part (no_frame front.base.0 (front.deep ∙ parts.0)) ∙ here.2,
    )
