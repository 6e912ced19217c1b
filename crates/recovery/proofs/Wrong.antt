-- The runs of keepers that go wrong, played out.
use Rattle.std.proofs.Common.{refl, lit≤}
use Rattle.recovery.specs.Wrong.{moves, AllFair, SameNumber, BelowBar, NumberAgain, NoBar, WrongTurns}
use Rattle.recovery.proofs.Example.{small, playing}

same_number_lem : SameNumber
unfolding playing moves AllFair
same_number_lem =
    record {
      fair = (small 7 (lit≤ tt), (tt, (tt, (tt, (tt, (tt, (small 8 (lit≤ tt), (tt, (tt, (lit≤ tt, (lit≤ tt, (tt, (tt, (tt, tt))))))))))))));
      fair_later = (lit≤ tt, (lit≤ tt, (tt, (tt, (tt, (tt, (tt, (tt, (tt, tt)))))))));
      before = refl;
      after = refl;
    }

below_bar_lem : BelowBar
unfolding playing moves AllFair
below_bar_lem =
    record {
      fair = (small 7 (lit≤ tt), (tt, (tt, (lit≤ tt, (lit≤ tt, (tt, (tt, tt)))))));
      fair_later = (lit≤ tt, (lit≤ tt, (tt, (tt, (tt, (tt, (tt, (tt, (tt, tt)))))))));
      before = refl;
      after = refl;
    }

number_again_lem : NumberAgain
unfolding playing moves AllFair
number_again_lem =
    record {
      fair = (small 7 (lit≤ tt), (tt, (tt, (tt, (tt, (tt, (small 8 (lit≤ tt), (tt, (tt, (lit≤ tt, (lit≤ tt, (tt, (tt, (tt, (tt, (tt, tt))))))))))))))));
      fair_later = (lit≤ tt, (lit≤ tt, (lit≤ tt, (lit≤ tt, tt))));
      before = refl;
      after = refl;
    }

no_bar_lem : NoBar
unfolding playing moves AllFair
no_bar_lem = record { fair = (small 7 (lit≤ tt), (tt, (tt, (tt, (tt, (small 8 (lit≤ tt), (tt, (tt, (tt, tt))))))))); before = refl; after = refl }

pub wrong_turns : WrongTurns
wrong_turns = record { same_number = same_number_lem; below_bar = below_bar_lem; number_again = number_again_lem; no_bar = no_bar_lem }
