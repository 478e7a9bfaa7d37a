use Rattle.std.proofs.Common.{◌≡◌, ◌++◌, [], ◌∷◌, length, ap, sym, ◌∙◌, subst, arith, codes}
use Rattle.std.specs.Prelude.{IfOk}
use Rattle.wcet_report.proofs.Joins.{any_put, some_put}
use Rattle.wcet_report.proofs.contexts.put_arguments.Goals as goal
use Rattle.wcet_report.specs.Context.{argument_names, known}
use Rattle.wcet_report.specs.Line.{spaced}

pub returns-then-len-before : goal.returns-then-len-before
returns-then-len-before c =
    let put : c.put_known.new.text.items ≡ c.args.text.now.items ++ spaced (known argument_names c.args.values.now) = c.in_ok-put_known.ensures in
    let long : length c.put_known.new.text.items ≡ length c.args.text.now.items =
    omega (arith, c.len.ensures, c.len-before.ensures, c.if-len-before.true, c.put_known.new.text.ok.0, c.args.text.now.ok.0) in
    subst (λ text. IfOk c.put_word.result (λ _. c.put_word.new.text.items ≡ text))
    (ap (λ text. text ++ spaced (codes "any" ∷ [])) put
    ∙ any_put c.args.text.now.items (known argument_names c.args.values.now) (ap length (sym put) ∙ long))
    c.put_word.ensures

pub returns : goal.returns
returns c =
    let put : c.put_known.new.text.items ≡ c.args.text.now.items ++ spaced (known argument_names c.args.values.now) = c.in_ok-put_known.ensures in
    put ∙ some_put c.args.text.now.items (known argument_names c.args.values.now) (λ same.
    let long : length c.put_known.new.text.items ≡ length c.args.text.now.items = ap length put ∙ same in
    c.if-len-before.false (omega (arith, c.len.ensures, c.len-before.ensures, long, c.put_known.new.text.ok.0, c.args.text.now.ok.0)))
