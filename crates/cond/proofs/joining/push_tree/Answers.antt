use Rattle.std.proofs.Common.{◌==◌, arith, List, ◌++◌, ◌∷◌, [], append-nil, sym, refl, ap, ◌∙◌}
use Rattle.cond.specs.Meaning.{test_meaning}
use Rattle.cond.specs.Trees.{written, tree_verdict}
use Rattle.cond.specs.declared.tree.Tree.{Tree}
use Rattle.cond.proofs.Conjunctions.{joins, written_more, grown_more, says_more, nothing, leaf_says, denied_says, both_say, not_turned, only_one}
use Rattle.cond.proofs.joining.push_tree.Goals as goal

pub returns-in_ok-push_part-in-Leaf-clause-written : goal.returns-in_ok-push_part-in-Leaf-clause-written
returns-in_ok-push_part-in-Leaf-clause-written c =
    let joined = joins c.args.trees.now.items [] c.in_ok-push_part-in-Leaf.ensures.text (sym (append-nil c.args.trees.now.items)) c.in_ok-push_part-in-Leaf.ensures.parts refl refl in
    written_more joined c.requires.written

pub returns-in_ok-push_part-in-Leaf-clause-grown : goal.returns-in_ok-push_part-in-Leaf-clause-grown
returns-in_ok-push_part-in-Leaf-clause-grown c =
    let joined = joins c.args.trees.now.items [] c.in_ok-push_part-in-Leaf.ensures.text (sym (append-nil c.args.trees.now.items)) c.in_ok-push_part-in-Leaf.ensures.parts refl refl in
    grown_more joined c.requires.grown

pub returns-in_ok-push_part-in-Leaf-clause-ok : goal.returns-in_ok-push_part-in-Leaf-clause-ok
returns-in_ok-push_part-in-Leaf-clause-ok c = λ e.
    let says = not_turned (test_meaning e (written c.args.more.now c.in-Leaf.test)) ∙ sym (leaf_says c.args.more.now e c.in-Leaf.test) ∙ ap (tree_verdict c.args.more.now e) (sym c.in-Leaf.is) in
    let joined = joins c.args.trees.now.items [] c.in_ok-push_part-in-Leaf.ensures.text (sym (append-nil c.args.trees.now.items)) c.in_ok-push_part-in-Leaf.ensures.parts refl refl in
    says_more joined c.requires.written c.requires.grown e (tree_verdict c.args.more.now e c.args.tree) says

pub returns-in_ok-push_part-in-Denied-clause-written : goal.returns-in_ok-push_part-in-Denied-clause-written
returns-in_ok-push_part-in-Denied-clause-written c =
    let joined = joins c.args.trees.now.items [] c.in_ok-push_part-in-Denied.ensures.text (sym (append-nil c.args.trees.now.items)) c.in_ok-push_part-in-Denied.ensures.parts refl refl in
    written_more joined c.requires.written

pub returns-in_ok-push_part-in-Denied-clause-grown : goal.returns-in_ok-push_part-in-Denied-clause-grown
returns-in_ok-push_part-in-Denied-clause-grown c =
    let joined = joins c.args.trees.now.items [] c.in_ok-push_part-in-Denied.ensures.text (sym (append-nil c.args.trees.now.items)) c.in_ok-push_part-in-Denied.ensures.parts refl refl in
    grown_more joined c.requires.grown

pub returns-in_ok-push_part-in-Denied-clause-ok : goal.returns-in_ok-push_part-in-Denied-clause-ok
returns-in_ok-push_part-in-Denied-clause-ok c = λ e.
    let says = sym (denied_says c.args.more.now e c.in-Denied.test) ∙ ap (tree_verdict c.args.more.now e) (sym c.in-Denied.is) in
    let joined = joins c.args.trees.now.items [] c.in_ok-push_part-in-Denied.ensures.text (sym (append-nil c.args.trees.now.items)) c.in_ok-push_part-in-Denied.ensures.parts refl refl in
    says_more joined c.requires.written c.requires.grown e (tree_verdict c.args.more.now e c.args.tree) says

pub returns-in_ok-push_part-in-Both-clause-written : goal.returns-in_ok-push_part-in-Both-clause-written
returns-in_ok-push_part-in-Both-clause-written c =
    let none = nothing c.args.trees.now.items (ap (λ n. n == 0) (sym c.args.trees.now.ok.0) ∙ sym c.is_empty.ensures ∙ c.if-is_empty.true) in
    let joined = joins c.args.trees.now.items c.in-Both.all.items c.in_ok-push_part-in-Both.ensures.text
    (ap (λ (l : List Tree). l ++ c.in-Both.all.items) (sym none)) c.in_ok-push_part-in-Both.ensures.parts refl (c.len-count.ensures ∙ omega (arith, c.in-Both.all.ok.0)) in
    written_more joined c.requires.written

pub returns-in_ok-push_part-in-Both-clause-grown : goal.returns-in_ok-push_part-in-Both-clause-grown
returns-in_ok-push_part-in-Both-clause-grown c =
    let none = nothing c.args.trees.now.items (ap (λ n. n == 0) (sym c.args.trees.now.ok.0) ∙ sym c.is_empty.ensures ∙ c.if-is_empty.true) in
    let joined = joins c.args.trees.now.items c.in-Both.all.items c.in_ok-push_part-in-Both.ensures.text
    (ap (λ (l : List Tree). l ++ c.in-Both.all.items) (sym none)) c.in_ok-push_part-in-Both.ensures.parts refl (c.len-count.ensures ∙ omega (arith, c.in-Both.all.ok.0)) in
    grown_more joined c.requires.grown

pub returns-in_ok-push_part-in-Both-clause-ok : goal.returns-in_ok-push_part-in-Both-clause-ok
returns-in_ok-push_part-in-Both-clause-ok c = λ e.
    let none = nothing c.args.trees.now.items (ap (λ n. n == 0) (sym c.args.trees.now.ok.0) ∙ sym c.is_empty.ensures ∙ c.if-is_empty.true) in
    let says = sym (both_say c.args.more.now e c.in-Both.all) ∙ ap (tree_verdict c.args.more.now e) (sym c.in-Both.is) in
    let joined = joins c.args.trees.now.items c.in-Both.all.items c.in_ok-push_part-in-Both.ensures.text
    (ap (λ (l : List Tree). l ++ c.in-Both.all.items) (sym none)) c.in_ok-push_part-in-Both.ensures.parts refl (c.len-count.ensures ∙ omega (arith, c.in-Both.all.ok.0)) in
    says_more joined c.requires.written c.requires.grown e (tree_verdict c.args.more.now e c.args.tree) says

pub returns-in_ok-append-in-Both-clause-written : goal.returns-in_ok-append-in-Both-clause-written
returns-in_ok-append-in-Both-clause-written c =
    let joined = joins c.args.trees.now.items c.in-Both.all.items c.in_ok-push_part-in-Both-2.ensures.text
    (c.in_ok-append-in-Both.ensures.items ∙ ap (λ (l : List Tree). l ++ c.in-Both.all.items) c.reserve.ensures.items) c.in_ok-push_part-in-Both-2.ensures.parts refl
    (c.len-count.ensures ∙ omega (arith, c.in-Both.all.ok.0)) in
    written_more joined c.requires.written

pub returns-in_ok-append-in-Both-clause-grown : goal.returns-in_ok-append-in-Both-clause-grown
returns-in_ok-append-in-Both-clause-grown c =
    let joined = joins c.args.trees.now.items c.in-Both.all.items c.in_ok-push_part-in-Both-2.ensures.text
    (c.in_ok-append-in-Both.ensures.items ∙ ap (λ (l : List Tree). l ++ c.in-Both.all.items) c.reserve.ensures.items) c.in_ok-push_part-in-Both-2.ensures.parts refl
    (c.len-count.ensures ∙ omega (arith, c.in-Both.all.ok.0)) in
    grown_more joined c.requires.grown

pub returns-in_ok-append-in-Both-clause-ok : goal.returns-in_ok-append-in-Both-clause-ok
returns-in_ok-append-in-Both-clause-ok c = λ e.
    let says = sym (both_say c.args.more.now e c.in-Both.all) ∙ ap (tree_verdict c.args.more.now e) (sym c.in-Both.is) in
    let joined = joins c.args.trees.now.items c.in-Both.all.items c.in_ok-push_part-in-Both-2.ensures.text
    (c.in_ok-append-in-Both.ensures.items ∙ ap (λ (l : List Tree). l ++ c.in-Both.all.items) c.reserve.ensures.items) c.in_ok-push_part-in-Both-2.ensures.parts refl
    (c.len-count.ensures ∙ omega (arith, c.in-Both.all.ok.0)) in
    says_more joined c.requires.written c.requires.grown e (tree_verdict c.args.more.now e c.args.tree) says

pub returns-in_ok-push_part-in_default-clause-written : goal.returns-in_ok-push_part-in_default-clause-written
returns-in_ok-push_part-in_default-clause-written c =
    let joined = joins c.args.trees.now.items (c.args.tree ∷ []) c.in_ok-push_part-in_default.ensures.text
    (c.push_reserved.ensures.items ∙ ap (λ (l : List Tree). l ++ c.args.tree ∷ []) c.reserve-in_default.ensures.items) c.in_ok-push_part-in_default.ensures.parts refl refl in
    written_more joined c.requires.written

pub returns-in_ok-push_part-in_default-clause-grown : goal.returns-in_ok-push_part-in_default-clause-grown
returns-in_ok-push_part-in_default-clause-grown c =
    let joined = joins c.args.trees.now.items (c.args.tree ∷ []) c.in_ok-push_part-in_default.ensures.text
    (c.push_reserved.ensures.items ∙ ap (λ (l : List Tree). l ++ c.args.tree ∷ []) c.reserve-in_default.ensures.items) c.in_ok-push_part-in_default.ensures.parts refl refl in
    grown_more joined c.requires.grown

pub returns-in_ok-push_part-in_default-clause-ok : goal.returns-in_ok-push_part-in_default-clause-ok
returns-in_ok-push_part-in_default-clause-ok c = λ e.
    let says = only_one (tree_verdict c.args.more.now e c.args.tree) in
    let joined = joins c.args.trees.now.items (c.args.tree ∷ []) c.in_ok-push_part-in_default.ensures.text
    (c.push_reserved.ensures.items ∙ ap (λ (l : List Tree). l ++ c.args.tree ∷ []) c.reserve-in_default.ensures.items) c.in_ok-push_part-in_default.ensures.parts refl refl in
    says_more joined c.requires.written c.requires.grown e (tree_verdict c.args.more.now e c.args.tree) says
