-- `text_of_words` meets its contract. The loop's invariant: i words are put, up to a place, and there is room for those that are left.
use mathlib.Core.Path.{ap}
use native.Mathlib.Omega.{arith}
use borrow.Author.Rules.{rules}
use Rattle.text.specs.Layout.{word_text}
use Rattle.text.proofs.Writing.{word-most, wrote_none, wrote-more, wrote-all, text-written, text-refused}
use Rattle.text.proofs.write.text_of_words.Goals as goal

pub returns-then-text-words-clause-answer : goal.returns-then-text-words-clause-answer
returns-then-text-words-clause-answer c = (text-refused c.args.words.now c.args.text.now (omega arith)).0

pub returns-then-text-words-clause-left : goal.returns-then-text-words-clause-left
returns-then-text-words-clause-left c = (text-refused c.args.words.now c.args.text.now (omega arith)).1

pub loop-i-init : goal.loop-i-init
loop-i-init c = wrote_none c.args.words.now c.args.text.now (omega arith)

pub loop-i-preserved : goal.loop-i-preserved
loop-i-preserved c =
    let put = c.put_word-at in
    let blank = c.ender-blank in
    let most = word-most _ blank.result (search rules) in
    rw (put.ensures.value, put.ensures.text_after)
    (wrote-more _ _ _ _ _ _ c.loop-i-test.true c.loop-i.invariant (ap (word_text _) blank.ensures) most)

pub returns-clause-answer : goal.returns-clause-answer
returns-clause-answer c =
    let all = wrote-all _ _ _ c.loop-i.i _ (omega arith) c.loop-i.invariant in
    (text-written c.args.words.now c.args.text.now _ _ (omega arith) all).0

pub returns-clause-left : goal.returns-clause-left
returns-clause-left c =
    let all = wrote-all _ _ _ c.loop-i.i _ (omega arith) c.loop-i.invariant in
    (text-written c.args.words.now c.args.text.now c.loop-i.text _ (omega arith) all).1
