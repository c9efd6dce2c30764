use Rattle.std.proofs.Common.{◌∙◌, ap, sym, arith}
use Rattle.std.proofs.lemmas.List.{take_all}
use Rattle.std.proofs.lemmas.Result.{err_from_is_err_and}
use Rattle.question.specs.Questions.{question_from}
use Rattle.question.specs.Workings.KeyTexts.{key_texts_of}
use Rattle.question.proofs.ItemLemmas.{with_items-step, with_items-end, with_items-stop, taken-more}
use Rattle.question.proofs.reading.read_values.Goals as goal

pub loop-at-preserved : goal.loop-at-preserved
loop-at-preserved c =
    let items = c.args.items.now in let i = c.loop-at.at in let item = c.index-items-at.result in
    record {
      key_texts = with_items-step c.args.origin c.args.command items i item _ (omega arith) c.index-items-at.is
          c.loop-at.invariant.key_texts c.in_ok-read_value.ensures.key_texts;
      asked = c.in_ok-read_value.ensures.asked
          ∙ ap (λ first. question_from c.args.origin c.args.command (key_texts_of first)) (sym (taken-more items i item (omega arith) c.index-items-at.is));
    }

pub returns-in_err-read_value : goal.returns-in_err-read_value
returns-in_err-read_value c =
    let p = err_from_is_err_and c.from_residual.result c.from_residual.ensures.1 in
    rw (p.1, p.2) (record {
      key_texts = with_items-stop _ c.args.origin c.args.command c.args.items.now c.loop-at.at c.index-items-at.result
          _ _ (omega arith) c.index-items-at.is c.loop-at.invariant.key_texts c.in_err-read_value.ensures.key_texts;
      asked = tt;
    })

pub returns : goal.returns
returns c = record {
  key_texts = with_items-end c.args.origin c.args.command c.args.items.now c.loop-at.at _ (omega arith) c.loop-at.invariant.key_texts;
  asked = c.loop-at.invariant.asked
      ∙ ap (λ all. question_from c.args.origin c.args.command (key_texts_of all)) (take_all c.loop-at.at c.args.items.now (omega arith));
}
