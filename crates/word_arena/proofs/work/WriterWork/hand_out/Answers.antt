use Rattle.std.proofs.Common.{ap, sym, subst, arith, ◌∙◌, ◌≡◌, ℕ, true, false, List}
use Rattle.gen_core.specs.declared.views.Sizes.{Sizes}
use Rattle.gen_core.specs.declared.views.Buffer.{Buffer}
use Rattle.gen_core.specs.declared.views.WriterView.{WriterView}
use Rattle.gen_core.specs.Views.{last_tag_in}
use Rattle.gen_core.specs.Work.{writer_records}
use Rattle.arena_api.specs.Works.{free_count}
use Rattle.arena_api.specs.Calls.{IsLowestFree}
use Rattle.word_arena.specs.Ruled.{writer_of}
use Rattle.word_arena.specs.Knows.{buffers_by, view_of}
use Rattle.word_arena.proofs.Stores.{free-here, hand-knows, tagged-below}
use Rattle.word_arena.proofs.work.WriterWork.hand_out.Goals as goal
use Rattle.gen_core.proofs.StoredWords.{hand-records}

pub returns-clause-none : goal.returns-clause-none
returns-clause-none g c =
    let s = c.args.self.now in
    let list : c.as_slice.result.now ≡ (writer_of s.place.me.0).buffers = c.as_slice.ensures.value ∙ sym s.stands.same_buffers in
    let size : c.arena-arena.result.now.sizes.buffers ≡ (writer_of s.place.me.0).sizes.buffers = rw c.arena-arena.ensures (ap (λ (z : Sizes). z.buffers) (sym s.stands.same_sizes)) in
    let P : List Buffer × ℕ → Type 0 = λ x. (true ≡ false → free_count (buffers_by x.0) x.1 ≡ 0) × (free_count (buffers_by x.0) x.1 ≡ 0 → true ≡ false) in
    subst P (λ k. (list k, size k)) c.in_ok-buffer.ensures.none

pub returns-clause-handed : goal.returns-clause-handed
returns-clause-handed g c =
    let s = c.args.self.now in
    let w : WriterView = writer_of s.place.me.0 in
    let b : ℕ = c.in_ok-buffer.buffer in
    let list : c.as_slice.result.now ≡ w.buffers = c.as_slice.ensures.value ∙ sym s.stands.same_buffers in
    let size : c.arena-arena.result.now.sizes.buffers ≡ w.sizes.buffers = rw c.arena-arena.ensures (ap (λ (z : Sizes). z.buffers) (sym s.stands.same_sizes)) in
    let P : List Buffer × ℕ → Type 0 = λ x. IsLowestFree (buffers_by x.0) x.1 b in
    let lowest = subst P (λ k. (list k, size k)) c.in_ok-buffer.ensures.lowest in
    let free = free-here w b (let h = lowest.below in omega (arith, h, s.stands.good.count)) lowest.free in
    (λ k. view_of (c.take_buffer.ensures.table k) (c.take_buffer.ensures.view k)) ∙ hand-knows w s.stands.good b (last_tag_in w.buffers b) c.args.width free c.requires s.place.table_id

pub returns-clause-records : goal.returns-clause-records
returns-clause-records g c =
    let s = c.args.self.now in
    let w : WriterView = writer_of s.place.me.0 in
    let b : ℕ = c.in_ok-buffer.buffer in
    let list : c.as_slice.result.now ≡ w.buffers = c.as_slice.ensures.value ∙ sym s.stands.same_buffers in
    let size : c.arena-arena.result.now.sizes.buffers ≡ w.sizes.buffers = rw c.arena-arena.ensures (ap (λ (z : Sizes). z.buffers) (sym s.stands.same_sizes)) in
    let P : List Buffer × ℕ → Type 0 = λ x. IsLowestFree (buffers_by x.0) x.1 b in
    let lowest = subst P (λ k. (list k, size k)) c.in_ok-buffer.ensures.lowest in
    let free = free-here w b (let h = lowest.below in omega (arith, h, s.stands.good.count)) lowest.free in
    ap (λ (v : WriterView). writer_records v) c.take_buffer.ensures.view ∙ hand-records w s.stands.good b (last_tag_in w.buffers b) c.args.width free c.requires

pub returns-clause-tags : goal.returns-clause-tags
returns-clause-tags g c =
    let s = c.args.self.now in
    let w : WriterView = writer_of s.place.me.0 in
    let b : ℕ = c.in_ok-buffer.buffer in
    let list : c.as_slice.result.now ≡ w.buffers = c.as_slice.ensures.value ∙ sym s.stands.same_buffers in
    let size : c.arena-arena.result.now.sizes.buffers ≡ w.sizes.buffers = rw c.arena-arena.ensures (ap (λ (z : Sizes). z.buffers) (sym s.stands.same_sizes)) in
    let P : List Buffer × ℕ → Type 0 = λ x. IsLowestFree (buffers_by x.0) x.1 b in
    let lowest = subst P (λ k. (list k, size k)) c.in_ok-buffer.ensures.lowest in
    tagged-below w b s.stands.good (free-here w b (let h = lowest.below in omega (arith, h, s.stands.good.count)) lowest.free)
