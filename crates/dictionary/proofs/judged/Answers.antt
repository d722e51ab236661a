-- `judge`: the tests in the order of the rules, each with its answer.
use Prim.Native.Nat.{◌+◌, ◌/◌}
use native.Mathlib.Omega.{arith}
use borrow.Author.Rules.{rules}
use Rattle.dictionary.proofs.JudgeLaws.{judge_empty, judge_version, judge_bit, judge_short, judge_cut, judge_good, judge_bad}
use Rattle.runs.proofs.NumbersRunLaws.{run_fits, run_length}
use lib.ListN.{length}
use mathlib.Core.Path.{ap, ◌∙◌}
use Rattle.std.specs.Prelude.{Some}
use Rattle.dictionary.specs.declared.Names.{Names}
use Rattle.dictionary.proofs.judged.Goals as goal

pub returns-then-metadata-eq0 : goal.returns-then-metadata-eq0
returns-then-metadata-eq0 c = judge_empty _ c.if-metadata-eq0.true

pub returns-then-header-ne1 : goal.returns-then-header-ne1
returns-then-header-ne1 c = judge_version _ c.if-metadata-eq0.false _ (c.from-header.ensures, omega (arith, c.from-header.ensures, c.type_inv.metadata 0)) c.if-header-ne1.true

pub returns-then-header-ne0 : goal.returns-then-header-ne0
returns-then-header-ne0 c = search (rules, judge_bit)

pub returns-then-metadata-start : goal.returns-then-metadata-start
returns-then-metadata-start c = search (rules, judge_short)

pub overflow_add-names : goal.overflow_add-names
overflow_add-names c = let fits = run_fits (c.from-header.result / 64 + 1) c.head_read-head.result.count (omega arith) c.head_read-head.ensures.count.1 in search rules

pub overflow_mul-names : goal.overflow_mul-names
overflow_mul-names c = let fits = run_fits (c.from-header.result / 64 + 1) c.head_read-head.result.count (omega arith) c.head_read-head.ensures.count.1 in search rules

pub overflow_add-names-2 : goal.overflow_add-names-2
overflow_add-names-2 c = let fits = run_fits (c.from-header.result / 64 + 1) c.head_read-head.result.count (omega arith) c.head_read-head.ensures.count.1 in search rules

pub returns-then-metadata-names : goal.returns-then-metadata-names
returns-then-metadata-names c = search (rules, judge_cut)

pub returns-then-names_lawful : goal.returns-then-names_lawful
returns-then-names_lawful c =
    let told = c.head_read-head.ensures.told in
    let set = ap (λ (x : Names). x.sorted) told in
    ap Some told ∙ search (rules, judge_good)

pub returns : goal.returns
returns c = search (rules, judge_bad)

pub names_lawful-requires : goal.names_lawful-requires
names_lawful-requires c = let many = ap length c.new-offsets.ensures ∙ run_length _ _ _ (omega arith) (search rules) in omega arith
