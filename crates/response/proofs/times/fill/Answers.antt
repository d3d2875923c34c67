-- One more time is written and counted, and at the end the buffer has all of them in front.
use Rattle.std.proofs.Common.{ℕ, ◌≡◌, ap, length-take, ◌+◌, ◌≤◌, length, sym, refl, ap₂, ◌∙◌, below_none, arith, nat_eq}
use Rattle.basics.specs.Sums.{sum}
use Rattle.response.specs.Promise.{zeros}
use Rattle.response.proofs.Filling.{byte-is, byte-most, each-more, zeros-more, times-all, zeros-all}
use Rattle.response.proofs.times.fill.Goals as goal

pub loop-i-init : goal.loop-i-init
unfolding sum
loop-i-init c = record { each = below_none _; counted = refl; few = omega arith }

pub loop-i-preserved : goal.loop-i-preserved
loop-i-preserved c =
    let known = c.loop-i.invariant in
    let missed = nat_eq c.time_of.result 0 in
    record {
      each = each-more _ _ _ (omega arith) known.each c.time_of.ensures;
      counted = ap₂ ◌+◌ known.counted (c.from-misses.ensures ∙ byte-is missed) ∙ sym (zeros-more _ _ _ (omega arith));
      few = omega (arith, known.few, c.from-misses.ensures, byte-most missed);
    }

pub returns : goal.returns
returns c =
    let known = c.loop-i.invariant in
    let room : c.count_of.result ≤ length c.args.times.now = omega (arith, c.requires.3) in
    let long : length c.loop-i.time-items ≡ c.count_of.result = omega (arith, length-take {A = ℕ}) in
    let all : c.loop-i.i ≡ c.count_of.result = omega arith in
    rw (← c.count_of.ensures)
    (times-all _ _ _ room long (λ k l. known.each k (omega arith)), known.counted ∙ ap (zeros c.loop-i.time-items) all ∙ sym (zeros-all _ _ _ room long))
