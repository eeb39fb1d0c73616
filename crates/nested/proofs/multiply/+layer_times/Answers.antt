-- `times` adds up a layer for each block of the right factor, unless its rank is 0 or 1, and `layer` multiplies by that block: h times the block of g, then
-- the action. Rests on Layers, Summands, SumCalls, LowFactors and ranks' Sizes.
use Rattle.std.proofs.Common.{◌≡◌, ℕ, suc, ◌-◌, ◌≤◌, List, length, refl, sym, ◌∙◌, arith}
use borrow.Rule.Slice.PartMut.{same_len_mid}
use Rattle.lists.specs.Numbers.{factorial}
use Rattle.ranks.specs.Ranks.{size}
use Rattle.ranks.proofs.Sizes.{size_is}
use Rattle.nested.specs.Steps.{TimesPre, LayerPre}
use Rattle.nested.proofs.Layers.{layer_whole}
use Rattle.nested.proofs.LowFactors.{size_one, multiplied_zero}
use Rattle.nested.proofs.SumCalls.{layer_pre, sum_fits}
use Rattle.nested.proofs.Summands.{summing_first, summing_more, times_whole}
use Rattle.nested.proofs.multiply.+layer_times.Goals as goal

-- ---- layer

pub Parts::layer-returns : goal.Parts::layer-returns
Parts::layer-returns t c =
    layer_whole c.requires c.times.new.scratch c.times.auto.scratch c.args.self.p c.act.new.work c.times.auto.res c.times.ensures c.act.ensures

-- ---- times: a right factor of rank 0

pub times-bounds-g-0 : goal.times-bounds-g-0
times-bounds-g-0 t c = omega (arith, c.requires.factors.right, size_one c.args.l c.if-l-eq0.true)

pub times-returns-then-l-eq0 : goal.times-returns-then-l-eq0
times-returns-then-l-eq0 t c = let u = c.args in c.multiple.ensures ∙ multiplied_zero u.p u.m u.l u.h.now u.g.now c.if-l-eq0.true

-- ---- times: what is known of the sizes, where result and scratch have the lengths that they had at entry

module _ {m l s n : ℕ} {result₀ scratch₀ h g : List ℕ} (c : TimesPre m l result₀ scratch₀ h g) (es : s ≡ size m) (en : n ≡ size (l - 1)) where
  element_size : s ≡ factorial (suc m)
  element_size = es ∙ size_is m c.factors.rank

  block_size : n ≡ factorial (suc (l - 1))
  block_size = en ∙ size_is (l - 1) (omega (arith, c.factors.rank, c.factors.within))

  module _ (some : 1 ≤ l) (result scratch : List ℕ) (er : length result ≡ length result₀) (ew : length scratch ≡ length scratch₀) where
    result_size : length result ≡ s
    result_size = er ∙ c.factors.result ∙ sym element_size

    fits : s ≤ length scratch
    fits = sum_fits c element_size block_size some result scratch er ew

    next_pre : (k : ℕ) → k ≤ l → LayerPre m (l - 1) k s n result scratch h g
    next_pre = layer_pre c element_size block_size some result scratch er ew

-- ---- times: the first layer

pub times-layer-requires : goal.times-layer-requires
times-layer-requires t c = let u = c.args in
    (omega arith, next_pre c.requires c.size.ensures c.size-2.ensures (omega arith) u.res.now u.scratch.now refl refl u.l (omega arith))

pub times-slice_bounds-load-end : goal.times-slice_bounds-load-end
times-slice_bounds-load-end t c =
    fits c.requires c.size.ensures c.size-2.ensures (omega arith) c.layer.new.res c.layer.new.scratch c.layer.auto.res c.layer.auto.scratch

pub times-loop-k-init : goal.times-loop-k-init
times-loop-k-init t c =
    let some : 1 ≤ c.args.l = omega arith in
    let y = c.layer in
    summing_first y.ensures some
    (result_size c.requires c.size.ensures c.size-2.ensures some y.new.res y.new.scratch y.auto.res y.auto.scratch)
    (fits c.requires c.size.ensures c.size-2.ensures some y.new.res y.new.scratch y.auto.res y.auto.scratch)
    c.load.auto.d c.load.ensures (omega arith)

-- ---- times: the loop

pub times-layer-requires-in-loop-k : goal.times-layer-requires-in-loop-k
times-layer-requires-in-loop-k t c =
    let same_scratch = same_len_mid 0 (c.size.result - 0) c.layer.new.scratch c.load.new.d c.load.auto.d in (
      omega arith,
      next_pre c.requires c.size.ensures c.size-2.ensures (omega arith) c.loop-k.res c.loop-k.scratch
          (c.loop-k.auto.res ∙ c.layer.auto.res) (c.loop-k.auto.scratch ∙ same_scratch ∙ c.layer.auto.scratch) _ (omega arith),
    )

pub times-loop-k-preserved : goal.times-loop-k-preserved
times-loop-k-preserved t c =
    let y = c.layer-in-loop-k in
    let some : 1 ≤ c.args.l = omega arith in
    let same : length c.loop-k.res ≡ length c.args.res.now = c.loop-k.auto.res ∙ c.layer.auto.res in
    let same_scratch : length c.loop-k.scratch ≡ length c.args.scratch.now =
    c.loop-k.auto.scratch ∙ same_len_mid 0 (c.size.result - 0) c.layer.new.scratch c.load.new.d c.load.auto.d ∙ c.layer.auto.scratch in
    summing_more c.loop-k.invariant (omega arith)
    (result_size c.requires c.size.ensures c.size-2.ensures some c.loop-k.res c.loop-k.scratch same same_scratch)
    y.auto.res y.ensures (omega arith) y.auto.scratch
    (fits c.requires c.size.ensures c.size-2.ensures some y.new.res y.new.scratch (y.auto.res ∙ same) (y.auto.scratch ∙ same_scratch))
    c.add_to.auto.d c.add_to.ensures (omega arith)

-- ---- times: the last layer

pub times-layer-requires-2 : goal.times-layer-requires-2
times-layer-requires-2 t c =
    let same_scratch = same_len_mid 0 (c.size.result - 0) c.layer.new.scratch c.load.new.d c.load.auto.d in (
      omega arith,
      next_pre c.requires c.size.ensures c.size-2.ensures (omega arith) c.loop-k.res c.loop-k.scratch
          (c.loop-k.auto.res ∙ c.layer.auto.res) (c.loop-k.auto.scratch ∙ same_scratch ∙ c.layer.auto.scratch) _ (omega arith),
    )

pub times-returns : goal.times-returns
times-returns t c =
    let some : 1 ≤ c.args.l = omega arith in
    let same_scratch : length c.loop-k.scratch ≡ length c.args.scratch.now =
    c.loop-k.auto.scratch ∙ same_len_mid 0 (c.size.result - 0) c.layer.new.scratch c.load.new.d c.load.auto.d ∙ c.layer.auto.scratch in
    let size_now = result_size c.requires c.size.ensures c.size-2.ensures some c.loop-k.res c.loop-k.scratch
    (c.loop-k.auto.res ∙ c.layer.auto.res) same_scratch in
    let all : suc c.args.l - c.loop-k.k ≡ c.args.l = omega (arith, c.loop-k.invariant.within) in
    times_whole c.loop-k.invariant (omega (arith, all)) size_now c.layer-2.auto.res c.layer-2.ensures all
    (block_size c.requires c.size.ensures c.size-2.ensures) c.finish.ensures
