use Rattle.std.proofs.Common.{◌≡◌, ℕ, Bool, List, [], ◌∷◌, ◌++◌, ◌∙◌, arith}
use Rattle.rv_book.specs.Registers.{groups_of}
use Rattle.rv_record.specs.CellReading.{GroupFits}
use Rattle.rv_history.specs.SoundClosingLaws.{retires_bound}
use Rattle.rv_state.proofs.Openings.{all_more, none_got, so_far}
use Rattle.rv_state.proofs.state.State.page_groups.Goals as goal

pub group_count-index-end-requires : goal.group_count-index-end-requires
group_count-index-end-requires c = retires_bound c.self.inside.book.book c.self.invariant.0

pub group_at-requires : goal.group_at-requires
group_at-requires c = retires_bound c.self.inside.book.book c.self.invariant.0

pub unreachable-requires : goal.unreachable-requires
unreachable-requires c = none_got (groups_of c.self.inside.book.book) c.loop-index.index c.in_default.ensures (omega (arith, c.loop-index-test.true, c.group_count-index-end.ensures))

pub loop-index-preserved : goal.loop-index-preserved
loop-index-preserved c =
    let made : List ℕ × List ℕ × ℕ × Bool = (c.in_ok-group.group, c.in_ok-user.user, c.in-Some.told.last_order, c.in-Some.told.retired) in
    let told : List ℕ × List ℕ × ℕ × Bool = (c.in-Some.told.group.now, c.in-Some.told.user.now, c.in-Some.told.last_order, c.in-Some.told.retired) in
    let is : made ≡ told = (λ i. (c.in_ok-group.ensures i, c.in_ok-user.ensures i, c.in-Some.told.last_order, c.in-Some.told.retired)) in
    record {
      so_far = so_far (groups_of c.self.inside.book.book) c.loop-index.groups c.push.new.self c.loop-index.index told made c.loop-index.invariant.so_far c.in-Some.ensures c.in_ok-push.ensures.ok is;
      fits = all_more GroupFits c.loop-index.groups c.push.new.self told c.loop-index.invariant.fits c.group_fits.ensures (c.in_ok-push.ensures.ok ∙ (λ i. c.loop-index.groups ++ is i ∷ []));
    }
