mod UnmetLaws
