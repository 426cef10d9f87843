mod StoreLaws
