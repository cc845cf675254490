use Rattle.std.proofs.Common.{rules, ◌≡◌, ℕ, ◌+◌, ◌-◌, ◌<◌, ◌≤◌, ◌^◌, suc, length, sym, ap, subst, ◌∙◌, arith, Some}
use Rattle.entry_ref.specs.Records.{HasWord, word_at}
use Rattle.tree_read.specs.Nodes.{level_of, used_of, node_keys}
use Rattle.tree_read.specs.Trees.{pairs_below, IsNode}
use Rattle.tree_read.specs.Keys.{Ascends, AllReadable, seen_by}
use Rattle.tree_read.specs.Pairs.{lookup_pair}
use Rattle.tree_read.specs.NodePlaces.{IsSlot, IsFound, IsLacking}
use Rattle.tree_read.proofs.ChildLemmas.{IsNode-lower, child-node, child-all, child-ascends, keys-length}
use Rattle.tree_read.proofs.ReadLemmas.{node-level, node-room, node-size}
use Rattle.tree_read.proofs.SeekLemmas.{past-none, child-pair, leaf-found, leaf-lacking}
use Rattle.tree_read.proofs.finding.+find_below.Goals as goal

pub start_of-start-requires : goal.start_of-start-requires
start_of-start-requires g t c =
    let size = node-size (g.F.Frozen.records c.args.frozen.now) 1 c.args.level c.args.node c.requires.node in
    (omega arith, (omega (arith, size), size))

pub read_used-used-requires : goal.read_used-used-requires
read_used-used-requires g t c =
    let records = g.F.Frozen.records in
    let key = g.K.KeyOrder in
    let total = g.met.K.KeyOrder.total in
    let m = records c.args.frozen.now in
    let node = c.args.node in
    let level = c.args.level in
    let s = key.sought c.args.key.now in
    let is = c.requires.node in
    let at_level : level_of (m node) ≡ level = node-level m 1 level node is in
    let most = node-room m 1 level node is in
    let size = keys-length m 1 level node is in (
      omega arith,
      subst (λ (f : g.row.F.Denot). (length (records f node) ≡ 34) × (c.start_of-start.result ≡ g.F.Frozen.begins f node)) (sym c.start_of-start.ensures.same)
          (node-size m 1 level node is, c.start_of-start.ensures.start),
    )

pub seek_slot-slot-requires : goal.seek_slot-slot-requires
seek_slot-slot-requires g t c =
    let records = g.F.Frozen.records in
    let key = g.K.KeyOrder in
    let total = g.met.K.KeyOrder.total in
    let m = records c.args.frozen.now in
    let node = c.args.node in
    let level = c.args.level in
    let s = key.sought c.args.key.now in
    let is = c.requires.node in
    let at_level : level_of (m node) ≡ level = node-level m 1 level node is in
    let most = node-room m 1 level node is in
    let size = keys-length m 1 level node is in
    let first = c.start_of-start.ensures.same in
    let head = c.read_used-used.ensures.same ∙ first in
    let used : c.read_used-used.result ≡ length (node_keys (m node)) = c.read_used-used.ensures.used ∙ ap (λ (f : g.row.F.Denot). used_of (records f node)) first ∙ sym size in (
      omega arith,
      (
        subst (λ (f : g.row.F.Denot). c.start_of-start.result ≡ g.F.Frozen.begins f node) (sym head) c.start_of-start.ensures.start,
        (
          subst (λ (f : g.row.F.Denot). IsNode (records f) 1 (level_of (records f node)) node) (sym head) (subst (λ l. IsNode m 1 l node) (sym at_level) is),
          (
            subst (λ (f : g.row.F.Denot). AllReadable key.can_read (records f) (pairs_below (records f) (level_of (records f node)) node)) (sym head)
                (subst (λ l. AllReadable key.can_read m (pairs_below m l node)) (sym at_level) c.requires.readable),
            subst (λ (f : g.row.F.Denot). c.read_used-used.result ≡ length (node_keys (records f node))) (sym head) used,
          ),
        ),
      ),
    )

pub returns-then-slot-used-clause-pair : goal.returns-then-slot-used-clause-pair
returns-then-slot-used-clause-pair g t c =
    let records = g.F.Frozen.records in
    let key = g.K.KeyOrder in
    let total = g.met.K.KeyOrder.total in
    let m = records c.args.frozen.now in
    let node = c.args.node in
    let level = c.args.level in
    let s = key.sought c.args.key.now in
    let is = c.requires.node in
    let at_level : level_of (m node) ≡ level = node-level m 1 level node is in
    let most = node-room m 1 level node is in
    let size = keys-length m 1 level node is in
    let seen = seen_by key.read key.order s m in
    let slot = c.seek_slot-slot.result in
    let first = c.start_of-start.ensures.same in
    let head = c.read_used-used.ensures.same ∙ first in
    let at : IsSlot seen (node_keys (m node)) slot =
    subst (λ (f : g.row.F.Denot). IsSlot (seen_by key.read key.order s (records f)) (node_keys (records f node)) slot) head c.seek_slot-slot.ensures.slot in
    let within = at.within in
    let used : c.read_used-used.result ≡ used_of (m node) = c.read_used-used.ensures.used ∙ ap (λ (f : g.row.F.Denot). used_of (records f node)) first in
    let past : used_of (m node) ≤ slot = (let test = c.if-slot-used.true in omega arith) in
    past-none key.order total (key.read m) s m level node slot is c.requires.ascends at past

pub overflow_add-slot : goal.overflow_add-slot
overflow_add-slot g t c =
    let records = g.F.Frozen.records in
    let key = g.K.KeyOrder in
    let total = g.met.K.KeyOrder.total in
    let m = records c.args.frozen.now in
    let node = c.args.node in
    let level = c.args.level in
    let s = key.sought c.args.key.now in
    let is = c.requires.node in
    let at_level : level_of (m node) ≡ level = node-level m 1 level node is in
    let most = node-room m 1 level node is in
    let size = keys-length m 1 level node is in
    let seen = seen_by key.read key.order s m in
    let slot = c.seek_slot-slot.result in
    let first = c.start_of-start.ensures.same in
    let head = c.read_used-used.ensures.same ∙ first in
    let at : IsSlot seen (node_keys (m node)) slot =
    subst (λ (f : g.row.F.Denot). IsSlot (seen_by key.read key.order s (records f)) (node_keys (records f node)) slot) head c.seek_slot-slot.ensures.slot in
    let within = at.within in
    let used : c.read_used-used.result ≡ used_of (m node) = c.read_used-used.ensures.used ∙ ap (λ (f : g.row.F.Denot). used_of (records f node)) first in
    omega arith

pub word_from-value-requires : goal.word_from-value-requires
word_from-value-requires g t c =
    let records = g.F.Frozen.records in
    let key = g.K.KeyOrder in
    let total = g.met.K.KeyOrder.total in
    let m = records c.args.frozen.now in
    let node = c.args.node in
    let level = c.args.level in
    let s = key.sought c.args.key.now in
    let is = c.requires.node in
    let at_level : level_of (m node) ≡ level = node-level m 1 level node is in
    let most = node-room m 1 level node is in
    let size = keys-length m 1 level node is in
    let seen = seen_by key.read key.order s m in
    let slot = c.seek_slot-slot.result in
    let first = c.start_of-start.ensures.same in
    let head = c.read_used-used.ensures.same ∙ first in
    let at : IsSlot seen (node_keys (m node)) slot =
    subst (λ (f : g.row.F.Denot). IsSlot (seen_by key.read key.order s (records f)) (node_keys (records f node)) slot) head c.seek_slot-slot.ensures.slot in
    let within = at.within in
    let used : c.read_used-used.result ≡ used_of (m node) = c.read_used-used.ensures.used ∙ ap (λ (f : g.row.F.Denot). used_of (records f node)) first in
    let low : slot < used_of (m node) = (let test = c.if-slot-used.false in omega arith) in
    let same : c.seek_slot-slot.new.frozen ≡ c.args.frozen.now = c.seek_slot-slot.ensures.same ∙ head in
    let wide = node-size m 1 level node is in (
      omega arith,
      subst (λ (f : g.row.F.Denot). HasWord (records f) node (18 + slot) × (c.start_of-start.result ≡ g.F.Frozen.begins f node)) (sym same)
          (omega (arith, wide, low, most), c.start_of-start.ensures.start),
    )

pub overflow_cast-value : goal.overflow_cast-value
overflow_cast-value g t c =
    let records = g.F.Frozen.records in
    let key = g.K.KeyOrder in
    let total = g.met.K.KeyOrder.total in
    let m = records c.args.frozen.now in
    let node = c.args.node in
    let level = c.args.level in
    let s = key.sought c.args.key.now in
    let is = c.requires.node in
    let at_level : level_of (m node) ≡ level = node-level m 1 level node is in
    let most = node-room m 1 level node is in
    let size = keys-length m 1 level node is in
    let seen = seen_by key.read key.order s m in
    let slot = c.seek_slot-slot.result in
    let first = c.start_of-start.ensures.same in
    let head = c.read_used-used.ensures.same ∙ first in
    let at : IsSlot seen (node_keys (m node)) slot =
    subst (λ (f : g.row.F.Denot). IsSlot (seen_by key.read key.order s (records f)) (node_keys (records f node)) slot) head c.seek_slot-slot.ensures.slot in
    let within = at.within in
    let used : c.read_used-used.result ≡ used_of (m node) = c.read_used-used.ensures.used ∙ ap (λ (f : g.row.F.Denot). used_of (records f node)) first in
    let low : slot < used_of (m node) = (let test = c.if-slot-used.false in omega arith) in
    let same : c.seek_slot-slot.new.frozen ≡ c.args.frozen.now = c.seek_slot-slot.ensures.same ∙ head in
    let wide = node-size m 1 level node is in
    let q = word_at m node (18 + slot) in
    let is_q : c.word_from-value.result ≡ q = c.word_from-value.ensures.value ∙ ap (λ (f : g.row.F.Denot). word_at (records f) node (18 + slot)) same in
    let l = level - 1 in
    let above : level ≡ suc l = (let test = c.if-level-gt0.true in omega arith) in
    let child : IsNode m 8 l q = child-node m 1 level l node above is slot low in
    let size_q = node-size m 8 l q child in
    let small : q < 2 ^ 32 = g.met.F.Frozen.references c.args.frozen.now q (omega arith) in
    omega arith

pub find_below-requires : goal.find_below-requires
find_below-requires g t c =
    let records = g.F.Frozen.records in
    let key = g.K.KeyOrder in
    let total = g.met.K.KeyOrder.total in
    let m = records c.args.frozen.now in
    let node = c.args.node in
    let level = c.args.level in
    let s = key.sought c.args.key.now in
    let is = c.requires.node in
    let at_level : level_of (m node) ≡ level = node-level m 1 level node is in
    let most = node-room m 1 level node is in
    let size = keys-length m 1 level node is in
    let seen = seen_by key.read key.order s m in
    let slot = c.seek_slot-slot.result in
    let first = c.start_of-start.ensures.same in
    let head = c.read_used-used.ensures.same ∙ first in
    let at : IsSlot seen (node_keys (m node)) slot =
    subst (λ (f : g.row.F.Denot). IsSlot (seen_by key.read key.order s (records f)) (node_keys (records f node)) slot) head c.seek_slot-slot.ensures.slot in
    let within = at.within in
    let used : c.read_used-used.result ≡ used_of (m node) = c.read_used-used.ensures.used ∙ ap (λ (f : g.row.F.Denot). used_of (records f node)) first in
    let low : slot < used_of (m node) = (let test = c.if-slot-used.false in omega arith) in
    let same : c.seek_slot-slot.new.frozen ≡ c.args.frozen.now = c.seek_slot-slot.ensures.same ∙ head in
    let wide = node-size m 1 level node is in
    let q = word_at m node (18 + slot) in
    let is_q : c.word_from-value.result ≡ q = c.word_from-value.ensures.value ∙ ap (λ (f : g.row.F.Denot). word_at (records f) node (18 + slot)) same in
    let l = level - 1 in
    let above : level ≡ suc l = (let test = c.if-level-gt0.true in omega arith) in
    let child : IsNode m 8 l q = child-node m 1 level l node above is slot low in
    let ref = c.from_raw.result in
    let ref_is : ref ≡ q = c.from_raw.ensures ∙ is_q in
    let kept : c.word_from-value.new.self ≡ c.args.frozen.now = c.word_from-value.ensures.same ∙ same in
    let lower = IsNode-lower m 8 1 l q (let e : 1 ≤ 8 = omega arith in e) child in
    let up = child-ascends m 1 level l node above is key.order (key.read m) c.requires.ascends slot low in
    let can = child-all m 1 level l node above is (λ p. key.can_read m p.0) c.requires.readable slot low in
    let put : (P : ℕ → Type 0) → P q → P ref = λ P h. subst P (sym ref_is) h in
    λ κs h. (
      omega arith,
      (
        search rules,
        (
          h.0,
          (
            h.1.0,
            (
              h.1.1,
              (
                omega arith,
                (
                  subst (λ (f : g.row.F.Denot). IsNode (records f) 1 l ref) (sym kept) (put (IsNode m 1 l) lower),
                  (
                    subst (λ (f : g.row.F.Denot). Ascends key.order key.read (records f) (pairs_below (records f) l ref)) (sym kept) (put (λ r. Ascends key.order key.read m (pairs_below m l r)) up),
                    subst (λ (f : g.row.F.Denot). AllReadable key.can_read (records f) (pairs_below (records f) l ref)) (sym kept) (put (λ r. AllReadable key.can_read m (pairs_below m l r)) can),
                  ),
                ),
              ),
            ),
          ),
        ),
      ),
    )

pub returns-then-level-gt0-clause-pair : goal.returns-then-level-gt0-clause-pair
returns-then-level-gt0-clause-pair g t c =
    let records = g.F.Frozen.records in
    let key = g.K.KeyOrder in
    let total = g.met.K.KeyOrder.total in
    let m = records c.args.frozen.now in
    let node = c.args.node in
    let level = c.args.level in
    let s = key.sought c.args.key.now in
    let is = c.requires.node in
    let at_level : level_of (m node) ≡ level = node-level m 1 level node is in
    let most = node-room m 1 level node is in
    let size = keys-length m 1 level node is in
    let seen = seen_by key.read key.order s m in
    let slot = c.seek_slot-slot.result in
    let first = c.start_of-start.ensures.same in
    let head = c.read_used-used.ensures.same ∙ first in
    let at : IsSlot seen (node_keys (m node)) slot =
    subst (λ (f : g.row.F.Denot). IsSlot (seen_by key.read key.order s (records f)) (node_keys (records f node)) slot) head c.seek_slot-slot.ensures.slot in
    let within = at.within in
    let used : c.read_used-used.result ≡ used_of (m node) = c.read_used-used.ensures.used ∙ ap (λ (f : g.row.F.Denot). used_of (records f node)) first in
    let low : slot < used_of (m node) = (let test = c.if-slot-used.false in omega arith) in
    let same : c.seek_slot-slot.new.frozen ≡ c.args.frozen.now = c.seek_slot-slot.ensures.same ∙ head in
    let wide = node-size m 1 level node is in
    let q = word_at m node (18 + slot) in
    let is_q : c.word_from-value.result ≡ q = c.word_from-value.ensures.value ∙ ap (λ (f : g.row.F.Denot). word_at (records f) node (18 + slot)) same in
    let l = level - 1 in
    let above : level ≡ suc l = (let test = c.if-level-gt0.true in omega arith) in
    let child : IsNode m 8 l q = child-node m 1 level l node above is slot low in
    let ref = c.from_raw.result in
    let ref_is : ref ≡ q = c.from_raw.ensures ∙ is_q in
    let kept : c.word_from-value.new.self ≡ c.args.frozen.now = c.word_from-value.ensures.same ∙ same in
    c.find_below.ensures.pair
    ∙ ap (λ (f : g.row.F.Denot). lookup_pair (seen_by key.read key.order s (records f)) (pairs_below (records f) l ref)) kept
    ∙ ap (λ r. lookup_pair (seen_by key.read key.order s m) (pairs_below m l r)) ref_is
    ∙ sym (child-pair key.order total (key.read m) s m level node slot is c.requires.ascends at l above low)

pub overflow_add-slot-then-is_at : goal.overflow_add-slot-then-is_at
overflow_add-slot-then-is_at g t c =
    let records = g.F.Frozen.records in
    let key = g.K.KeyOrder in
    let total = g.met.K.KeyOrder.total in
    let m = records c.args.frozen.now in
    let node = c.args.node in
    let level = c.args.level in
    let s = key.sought c.args.key.now in
    let is = c.requires.node in
    let at_level : level_of (m node) ≡ level = node-level m 1 level node is in
    let most = node-room m 1 level node is in
    let size = keys-length m 1 level node is in
    let seen = seen_by key.read key.order s m in
    let slot = c.seek_slot-slot.result in
    let first = c.start_of-start.ensures.same in
    let head = c.read_used-used.ensures.same ∙ first in
    let at : IsSlot seen (node_keys (m node)) slot =
    subst (λ (f : g.row.F.Denot). IsSlot (seen_by key.read key.order s (records f)) (node_keys (records f node)) slot) head c.seek_slot-slot.ensures.slot in
    let within = at.within in
    let used : c.read_used-used.result ≡ used_of (m node) = c.read_used-used.ensures.used ∙ ap (λ (f : g.row.F.Denot). used_of (records f node)) first in
    omega arith

pub is_at-requires : goal.is_at-requires
is_at-requires g t c =
    let records = g.F.Frozen.records in
    let key = g.K.KeyOrder in
    let total = g.met.K.KeyOrder.total in
    let m = records c.args.frozen.now in
    let node = c.args.node in
    let level = c.args.level in
    let s = key.sought c.args.key.now in
    let is = c.requires.node in
    let at_level : level_of (m node) ≡ level = node-level m 1 level node is in
    let most = node-room m 1 level node is in
    let size = keys-length m 1 level node is in
    let seen = seen_by key.read key.order s m in
    let slot = c.seek_slot-slot.result in
    let first = c.start_of-start.ensures.same in
    let head = c.read_used-used.ensures.same ∙ first in
    let at : IsSlot seen (node_keys (m node)) slot =
    subst (λ (f : g.row.F.Denot). IsSlot (seen_by key.read key.order s (records f)) (node_keys (records f node)) slot) head c.seek_slot-slot.ensures.slot in
    let within = at.within in
    let used : c.read_used-used.result ≡ used_of (m node) = c.read_used-used.ensures.used ∙ ap (λ (f : g.row.F.Denot). used_of (records f node)) first in
    let low : slot < used_of (m node) = (let test = c.if-slot-used.false in omega arith) in
    let same : c.seek_slot-slot.new.frozen ≡ c.args.frozen.now = c.seek_slot-slot.ensures.same ∙ head in
    let wide = node-size m 1 level node is in
    let q = word_at m node (18 + slot) in
    let is_q : c.word_from-value.result ≡ q = c.word_from-value.ensures.value ∙ ap (λ (f : g.row.F.Denot). word_at (records f) node (18 + slot)) same in
    let flat : level ≡ 0 = (let test = c.if-level-gt0.false in omega arith) in
    let leaf : IsNode m 1 0 node = subst (λ l. IsNode m 1 l node) flat is in
    let kept : c.word_from-value.new.self ≡ c.args.frozen.now = c.word_from-value.ensures.same ∙ same in
    let here : slot < length (node_keys (m node)) = omega arith in (
      omega arith,
      (
        subst (λ (f : g.row.F.Denot). c.start_of-start.result ≡ g.F.Frozen.begins f node) (sym kept) c.start_of-start.ensures.start,
        (
          subst (λ (f : g.row.F.Denot). IsNode (records f) 1 (level_of (records f node)) node) (sym kept) (subst (λ l. IsNode m 1 l node) (sym at_level) is),
          (
            subst (λ (f : g.row.F.Denot). AllReadable key.can_read (records f) (pairs_below (records f) (level_of (records f node)) node)) (sym kept)
                (subst (λ l. AllReadable key.can_read m (pairs_below m l node)) (sym at_level) c.requires.readable),
            (
              subst (λ (f : g.row.F.Denot). slot < length (node_keys (records f node))) (sym kept) here,
              subst (λ (f : g.row.F.Denot). IsSlot (seen_by key.read key.order s (records f)) (node_keys (records f node)) slot) (sym kept) at,
            ),
          ),
        ),
      ),
    )

pub word_from-requires : goal.word_from-requires
word_from-requires g t c =
    let records = g.F.Frozen.records in
    let key = g.K.KeyOrder in
    let total = g.met.K.KeyOrder.total in
    let m = records c.args.frozen.now in
    let node = c.args.node in
    let level = c.args.level in
    let s = key.sought c.args.key.now in
    let is = c.requires.node in
    let at_level : level_of (m node) ≡ level = node-level m 1 level node is in
    let most = node-room m 1 level node is in
    let size = keys-length m 1 level node is in
    let seen = seen_by key.read key.order s m in
    let slot = c.seek_slot-slot.result in
    let first = c.start_of-start.ensures.same in
    let head = c.read_used-used.ensures.same ∙ first in
    let at : IsSlot seen (node_keys (m node)) slot =
    subst (λ (f : g.row.F.Denot). IsSlot (seen_by key.read key.order s (records f)) (node_keys (records f node)) slot) head c.seek_slot-slot.ensures.slot in
    let within = at.within in
    let used : c.read_used-used.result ≡ used_of (m node) = c.read_used-used.ensures.used ∙ ap (λ (f : g.row.F.Denot). used_of (records f node)) first in
    let low : slot < used_of (m node) = (let test = c.if-slot-used.false in omega arith) in
    let same : c.seek_slot-slot.new.frozen ≡ c.args.frozen.now = c.seek_slot-slot.ensures.same ∙ head in
    let q = word_at m node (18 + slot) in
    let is_q : c.word_from-value.result ≡ q = c.word_from-value.ensures.value ∙ ap (λ (f : g.row.F.Denot). word_at (records f) node (18 + slot)) same in
    let flat : level ≡ 0 = (let test = c.if-level-gt0.false in omega arith) in
    let leaf : IsNode m 1 0 node = subst (λ l. IsNode m 1 l node) flat is in
    let kept : c.word_from-value.new.self ≡ c.args.frozen.now = c.word_from-value.ensures.same ∙ same in
    let still : c.is_at.new.frozen ≡ c.args.frozen.now = c.is_at.ensures.same ∙ kept in
    let wide = node-size m 1 level node is in (
      omega arith,
      subst (λ (f : g.row.F.Denot). HasWord (records f) node (2 + slot) × (c.start_of-start.result ≡ g.F.Frozen.begins f node)) (sym still)
          (omega (arith, wide, low, most), c.start_of-start.ensures.start),
    )

pub returns-then-is_at-clause-pair : goal.returns-then-is_at-clause-pair
returns-then-is_at-clause-pair g t c =
    let records = g.F.Frozen.records in
    let key = g.K.KeyOrder in
    let total = g.met.K.KeyOrder.total in
    let m = records c.args.frozen.now in
    let node = c.args.node in
    let level = c.args.level in
    let s = key.sought c.args.key.now in
    let is = c.requires.node in
    let at_level : level_of (m node) ≡ level = node-level m 1 level node is in
    let most = node-room m 1 level node is in
    let size = keys-length m 1 level node is in
    let seen = seen_by key.read key.order s m in
    let slot = c.seek_slot-slot.result in
    let first = c.start_of-start.ensures.same in
    let head = c.read_used-used.ensures.same ∙ first in
    let at : IsSlot seen (node_keys (m node)) slot =
    subst (λ (f : g.row.F.Denot). IsSlot (seen_by key.read key.order s (records f)) (node_keys (records f node)) slot) head c.seek_slot-slot.ensures.slot in
    let within = at.within in
    let used : c.read_used-used.result ≡ used_of (m node) = c.read_used-used.ensures.used ∙ ap (λ (f : g.row.F.Denot). used_of (records f node)) first in
    let low : slot < used_of (m node) = (let test = c.if-slot-used.false in omega arith) in
    let same : c.seek_slot-slot.new.frozen ≡ c.args.frozen.now = c.seek_slot-slot.ensures.same ∙ head in
    let wide = node-size m 1 level node is in
    let q = word_at m node (18 + slot) in
    let is_q : c.word_from-value.result ≡ q = c.word_from-value.ensures.value ∙ ap (λ (f : g.row.F.Denot). word_at (records f) node (18 + slot)) same in
    let flat : level ≡ 0 = (let test = c.if-level-gt0.false in omega arith) in
    let leaf : IsNode m 1 0 node = subst (λ l. IsNode m 1 l node) flat is in
    let kept : c.word_from-value.new.self ≡ c.args.frozen.now = c.word_from-value.ensures.same ∙ same in
    let found : IsFound seen (node_keys (m node)) slot =
    subst (λ (f : g.row.F.Denot). IsFound (seen_by key.read key.order s (records f)) (node_keys (records f node)) slot) kept (c.is_at.ensures.found c.if-is_at.true) in
    let still : c.is_at.new.frozen ≡ c.args.frozen.now = c.is_at.ensures.same ∙ kept in
    let is_k : c.word_from.result ≡ word_at m node (2 + slot) = c.word_from.ensures.value ∙ ap (λ (f : g.row.F.Denot). word_at (records f) node (2 + slot)) still in
    ap (λ k. Some (k, c.word_from-value.result)) is_k ∙ ap (λ v. Some (word_at m node (2 + slot), v)) is_q
    ∙ leaf-found seen m node slot leaf at low found
    ∙ ap (λ l. lookup_pair seen (pairs_below m l node)) (sym flat)

pub returns-clause-pair : goal.returns-clause-pair
returns-clause-pair g t c =
    let records = g.F.Frozen.records in
    let key = g.K.KeyOrder in
    let total = g.met.K.KeyOrder.total in
    let m = records c.args.frozen.now in
    let node = c.args.node in
    let level = c.args.level in
    let s = key.sought c.args.key.now in
    let is = c.requires.node in
    let at_level : level_of (m node) ≡ level = node-level m 1 level node is in
    let most = node-room m 1 level node is in
    let size = keys-length m 1 level node is in
    let seen = seen_by key.read key.order s m in
    let slot = c.seek_slot-slot.result in
    let first = c.start_of-start.ensures.same in
    let head = c.read_used-used.ensures.same ∙ first in
    let at : IsSlot seen (node_keys (m node)) slot =
    subst (λ (f : g.row.F.Denot). IsSlot (seen_by key.read key.order s (records f)) (node_keys (records f node)) slot) head c.seek_slot-slot.ensures.slot in
    let within = at.within in
    let used : c.read_used-used.result ≡ used_of (m node) = c.read_used-used.ensures.used ∙ ap (λ (f : g.row.F.Denot). used_of (records f node)) first in
    let low : slot < used_of (m node) = (let test = c.if-slot-used.false in omega arith) in
    let same : c.seek_slot-slot.new.frozen ≡ c.args.frozen.now = c.seek_slot-slot.ensures.same ∙ head in
    let wide = node-size m 1 level node is in
    let q = word_at m node (18 + slot) in
    let is_q : c.word_from-value.result ≡ q = c.word_from-value.ensures.value ∙ ap (λ (f : g.row.F.Denot). word_at (records f) node (18 + slot)) same in
    let flat : level ≡ 0 = (let test = c.if-level-gt0.false in omega arith) in
    let leaf : IsNode m 1 0 node = subst (λ l. IsNode m 1 l node) flat is in
    let kept : c.word_from-value.new.self ≡ c.args.frozen.now = c.word_from-value.ensures.same ∙ same in
    let lacking : IsLacking seen (node_keys (m node)) slot =
    subst (λ (f : g.row.F.Denot). IsLacking (seen_by key.read key.order s (records f)) (node_keys (records f node)) slot) kept (c.is_at.ensures.lacking c.if-is_at.false) in
    leaf-lacking seen m node slot leaf at low lacking
    ∙ ap (λ l. lookup_pair seen (pairs_below m l node)) (sym flat)
