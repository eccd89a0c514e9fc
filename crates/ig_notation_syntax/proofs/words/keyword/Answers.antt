use Rattle.std.proofs.Common.{refl, arith}
use Rattle.ig_notation_syntax.specs.Spelling.{keywords}
use Rattle.ig_notation_syntax.proofs.Tables.{keyword_of_length, keyword_none}
use Rattle.ig_notation_syntax.proofs.words.keyword.Goals as goal

pub returns-in-2 : goal.returns-in-2
unfolding keywords
returns-in-2 c = keyword_of_length 2 _ c.args.word.now _ refl c.in-2.is c.utf8.word c.entry.ensures

pub returns-in-3 : goal.returns-in-3
unfolding keywords
returns-in-3 c = keyword_of_length 3 _ c.args.word.now _ refl c.in-3.is c.utf8.word c.entry-in-3.ensures

pub returns-in-4 : goal.returns-in-4
unfolding keywords
returns-in-4 c = keyword_of_length 4 _ c.args.word.now _ refl c.in-4.is c.utf8.word c.entry-in-4.ensures

pub returns-in-5 : goal.returns-in-5
unfolding keywords
returns-in-5 c = keyword_of_length 5 _ c.args.word.now _ refl c.in-5.is c.utf8.word c.entry-in-5.ensures

pub returns-in-6 : goal.returns-in-6
unfolding keywords
returns-in-6 c = keyword_of_length 6 _ c.args.word.now _ refl c.in-6.is c.utf8.word c.entry-in-6.ensures

pub returns-in-7 : goal.returns-in-7
unfolding keywords
returns-in-7 c = keyword_of_length 7 _ c.args.word.now _ refl c.in-7.is c.utf8.word c.entry-in-7.ensures

pub returns-in-8 : goal.returns-in-8
unfolding keywords
returns-in-8 c = keyword_of_length 8 _ c.args.word.now _ refl c.in-8.is c.utf8.word c.entry-in-8.ensures

pub returns-in_default : goal.returns-in_default
returns-in_default c =
    keyword_none c.args.word.now (λ e. omega arith) (λ e. omega arith) (λ e. omega arith) (λ e. omega arith)
    (λ e. omega arith) (λ e. omega arith) (λ e. omega arith) c.utf8.word
